-- Worked examples: texts with their trees, types, words and heights, and runs of those words.
use Rattle.std.specs.Prelude.{◌≡◌, ℕ, true, List, [], ◌∷◌, map, ℤ, pos, Some, None, Ok, Err, codes, Result}
use Rattle.refusal.specs.declared.Refusal.TheVariants.{NumberTooLarge, Unexpected, Overflow}
use Rattle.bytecode.specs.Words.{plus, minus, written, instruction_of, decoded}
use Rattle.bytecode.specs.declared.instruction.Instruction.TheVariants.{Push, Consti, Acc, Branch, Branchif, Leqi}
use Rattle.language.specs.Code.{translation, height}
use Rattle.language.specs.Reading.{parse}
use Rattle.language.specs.Tree.{Tree, number, truth, name, binary, choose, bind, flatten}
use Rattle.language.specs.Typing.{type_of}
use Rattle.language.specs.declared.operator.Operator.TheVariants.{AtMost, Plus, Times}
use Rattle.language.specs.declared.operator.ValueType.TheVariants.{Number}
use Rattle.arithmetic.specs.Words.{round_ops, ranged_ops}
use Rattle.machine.specs.Runs.{answered}
use Rattle.machine.specs.declared.outcome.Finished.{Finished}
use Rattle.machine.specs.declared.outcome.Halt.{Halt}

-- if weight <= 30 then 2 else 5
abbrev pub choice : Tree
choice = choose 0 (binary AtMost 10 (name 0 3) (number (plus 30) 13)) (number (plus 2) 21) (number (plus 5) 28)

-- let x = 4 + weight in x * x
abbrev pub square : Tree
square = bind 0 (binary Plus 10 (number (plus 4) 8) (name 0 12)) (binary Times 24 (name 0 22) (name 0 26))

-- weight * weight
abbrev pub product : Tree
product = binary Times 7 (name 0 0) (name 0 9)

-- 2 + true
abbrev pub mixed : Tree
mixed = binary Plus 2 (number (plus 2) 0) (truth true 4)

-- a stack for a parcel of that weight whose other measurements are 0, with room above the eight fields
abbrev pub parcel : {W : Type 0} → W → W → List W
parcel zero weight = zero ∷ zero ∷ zero ∷ zero ∷ zero ∷ zero ∷ zero ∷ weight ∷ zero ∷ zero ∷ []

-- a run of the rule's words on that stack, from height 8 and with as many steps as there are words
abbrev pub round : Tree → ℕ → ℕ → Result (Finished ℕ) Halt
round t words weight = answered round_ops (map written (translation t)) (parcel 0 weight) 0 8 words

abbrev pub ranged : Tree → ℕ → ℕ → Result (Finished ℤ) Halt
ranged t words weight = answered ranged_ops (map written (translation t)) (parcel (pos 0) (pos weight)) 0 8 words

abbrev pub Facts : Type 0
Facts =
    -- read, typed, translated
    (parse (codes "if weight <= 30 then 2 else 5") ≡ Ok (flatten choice)) ×
    ((type_of choice ≡ Ok Number) ×
    ((translation choice ≡ Acc 0 ∷ Push ∷ Consti (plus 30) ∷ Leqi ∷ Branchif (plus 3) ∷ Consti (plus 5) ∷ Branch (plus 2) ∷ Consti (plus 2) ∷ []) ×
    ((height choice ≡ 9) ×
    -- 2 in 6 steps at weight 30, 5 in 7 steps at 31
    ((round choice 8 30 ≡ Ok (record { word = 2; steps = 6 })) ×
    ((round choice 8 31 ≡ Ok (record { word = 5; steps = 7 })) ×
    -- a let
    ((parse (codes "let x = 4 + weight in x * x") ≡ Ok (flatten square)) ×
    ((height square ≡ 10) ×
    ((round square 10 3 ≡ Ok (record { word = 49; steps = 10 })) ×
    -- round words go round, ranged words overflow
    ((parse (codes "weight * weight") ≡ Ok (flatten product)) ×
    ((round product 4 256 ≡ Ok (record { word = 0; steps = 4 })) ×
    ((ranged product 4 46340 ≡ Ok (record { word = pos 2147395600; steps = 4 })) ×
    ((ranged product 4 46341 ≡ Err (record { refusal = Overflow 3; steps = 3 })) ×
    -- refusals
    ((parse (codes "2 + true") ≡ Ok (flatten mixed)) ×
    ((type_of mixed ≡ Err 2) ×
    ((parse (codes "3-4") ≡ Err (Unexpected 1)) ×
    ((parse (codes "255") ≡ Ok (flatten (number (plus 255) 0))) ×
    ((parse (codes "256") ≡ Err (NumberTooLarge 0)) ×
    ((parse [] ≡ Err (Unexpected 0)) ×
    -- words
    ((decoded (4 ∷ (1 ∷ (255 ∷ []))) ≡ (Some (Consti (minus 254)), [])) ×
    ((instruction_of 4 1 0 ≡ None) ×
    (instruction_of 0 0 1 ≡ None)))))))))))))))))))))
