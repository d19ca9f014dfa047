use Rattle.std.proofs.Common.{[], get_or, ap, ◌∙◌, arith}
use Rattle.memory.proofs.Flats.{length_words, chunk_there}
use Rattle.memory.proofs.flat.FlatCodeMemory.at.Goals as goal

pub returns : goal.returns
returns c =
    let self = c.args.self.now in
    let bytes = self.bytes.now in
    let place = c.args.place in
    let there = c.in_ok-bytes.ensures.lookup.3 in
    let chunks = c.as_chunks.ensures in
    let is = c.count.ensures.value ∙ length_words bytes self.used in
    chunk_there bytes self.used c.count.result place c.from.result is (omega arith) (omega (arith, there.0, chunks.front_len)) (c.from.ensures ∙ there.1 [] ∙ ap (λ xs. get_or xs place []) chunks.front)
