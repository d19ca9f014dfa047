-- The open frames of a stack, the newest first.
use Rattle.std.specs.Prelude.{List, reverse}
use Rattle.language.specs.declared.frame.Frame.{Frame}
use Rattle.reader.specs.declared.stack.Stack.{Stack}

abbrev pub frames_of : Stack → List Frame
frames_of s = reverse s.frames.items
