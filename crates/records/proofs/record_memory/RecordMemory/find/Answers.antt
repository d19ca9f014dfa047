use Rattle.std.proofs.Common.{◌%◌, [], get_or, refl, ap, ◌∙◌, arith}
use Rattle.records.proofs.Operations.{length_code, size_formed, code_there}
use Rattle.records.proofs.record_memory.RecordMemory.find.Goals as goal

pub returns : goal.returns
returns c =
    let self = c.args.self.now in
    let place = c.args.place in
    let is = c.count.ensures.value ∙ length_code self.bytes in
    let record_is = c.walk-record.ensures in
    record {
      there = omega arith;
      word = code_there self.bytes place c.walk-record.result c.from.result (size_formed self.bytes self.chains.formed) (omega arith) record_is.within record_is.is (c.from.ensures ∙ ap (λ xs. get_or xs (place % 5) []) c.as_chunks.ensures.front);
      index = refl;
      stands = record_is.is;
    }
