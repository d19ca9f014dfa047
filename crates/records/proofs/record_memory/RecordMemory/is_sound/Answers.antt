use Rattle.records.proofs.Followed.{sound}
use Rattle.records.proofs.record_memory.RecordMemory.is_sound.Goals as goal

pub returns : goal.returns
returns c = sound c.args.self.now.bytes c.args.self.now.chains.formed
