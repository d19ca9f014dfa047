-- The listing, word by word.
use Rattle.std.proofs.Common.{◌≡◌, ℕ, ◌+◌, ◌-◌, ◌*◌, ◌<◌, ◌≤◌, List, ◌∷◌, ◌++◌, length, take, drop, Some, None, Ok, Err, Option, Result, sym, refl, ap, ◌∙◌, append_assoc, arith, length-append, length-drop, IsOkAnd}
use Rattle.std.specs.List.{slice_get}
use Rattle.std.specs.Option.{ok_or, option_and_then}
use Rattle.std.proofs.lemmas.List.{drop_more, take_at, drop_at, drop-drop}
use Rattle.std.proofs.lemmas.Option.{slice_get_within, get_or_from_slice_get, slice_get-get_or}
use borrow.Rule.Slice.PartMut.{put_mid}
use Rattle.refusal.specs.declared.Refusal.{Refusal}
use Rattle.refusal.specs.declared.Refusal.TheVariants.{BadWord}
use Rattle.bytecode.specs.Words.{word, instruction_in}
use Rattle.bytecode.specs.declared.instruction.Word.{Word}
use Rattle.bytecode.specs.declared.instruction.Instruction.{Instruction}
use Rattle.listing.specs.Lines.{line_of, before, line_before, listing}
use Rattle.listing.specs.Output.{instruction_at}

before_on : (a b : List ℕ) (r : Result (List ℕ) Refusal) → before a (before b r) ≡ before (a ++ b) r
before_on a b (Ok x) = ap Ok (sym (append_assoc a b x))
before_on a b (Err e) = refl

before_size : (a text : List ℕ) (r : Result (List ℕ) Refusal) → before a r ≡ Ok text → length a ≤ length text
before_size a text (Ok x) e = let n = length-append a x in let h : a ++ x ≡ text = cc in let k = ap length h in omega arith
before_size a text (Err why) e = let z : ◌≡◌ {A = ℕ} 0 1 = cc in absurd (omega arith)

-- a word is an instruction, whose line goes before the rest, or it ends the listing
kept_line : (place : ℕ) (o : Option Instruction) (i : Instruction) (rest : Result (List ℕ) Refusal) → ok_or o (BadWord place) ≡ Ok i → line_before place o rest ≡ before (line_of place i) rest
kept_line place None i rest e = let z : ◌≡◌ {A = ℕ} 0 1 = cc in absurd (omega arith)
kept_line place (Some j) i rest e = let h : j ≡ i = cc in ap (λ x. before (line_of place x) rest) h

kept_none : (place : ℕ) (o : Option Instruction) (why : Refusal) (rest : Result (List ℕ) Refusal) → ok_or o (BadWord place) ≡ Err why → line_before place o rest ≡ Err why
kept_none place None why rest e = let h : BadWord place ≡ why = cc in ap Err h
kept_none place (Some j) why rest e = let z : ◌≡◌ {A = ℕ} 0 1 = cc in absurd (omega arith)

module _ (ws : List Word) (place : ℕ) where
  from_word : (w : Word) → slice_get ws place ≡ Some w → listing place (drop place ws) ≡ line_before place (instruction_in w) (listing (place + 1) (drop (place + 1) ws))
  from_word w e =
      let l = slice_get_within ws place w e in
      ap (listing place) (drop_more ws place w l ∙ ap (λ x. x ∷ drop (place + 1) ws) (get_or_from_slice_get ws place w w e))

  line_ok : (i : Instruction) → instruction_at ws place ≡ Ok i → listing place (drop place ws) ≡ before (line_of place i) (listing (place + 1) (drop (place + 1) ws))
  line_ok i = by (slice_get ws place) refl
    where
      by : (o : Option Word) → slice_get ws place ≡ o → ok_or (option_and_then instruction_in o) (BadWord place) ≡ Ok i → listing place (drop place ws) ≡ before (line_of place i) (listing (place + 1) (drop (place + 1) ws))
      by None p e = let z : ◌≡◌ {A = ℕ} 0 1 = cc in absurd (omega arith)
      by (Some w) p e = from_word w p ∙ kept_line place (instruction_in w) i (listing (place + 1) (drop (place + 1) ws)) e

  line_err : (why : Refusal) → place < length ws → instruction_at ws place ≡ Err why → listing place (drop place ws) ≡ Err why
  line_err why l = by (slice_get ws place) refl
    where
      by : (o : Option Word) → slice_get ws place ≡ o → ok_or (option_and_then instruction_in o) (BadWord place) ≡ Err why → listing place (drop place ws) ≡ Err why
      by None p e = let g = slice_get-get_or ws place (word 0 0 0) l in let z : ◌≡◌ {A = ℕ} 0 1 = cc in absurd (omega arith)
      by (Some w) p e = from_word w p ∙ kept_none place (instruction_in w) why (listing (place + 1) (drop (place + 1) ws)) e

-- the lines of the first words make this text, of so many bytes
pub record Read (ws : List Word) (place : ℕ) (text : List ℕ) (size : ℕ) : Type 0 where
  pub rest : listing 0 ws ≡ before text (listing place (drop place ws))
  pub size' : size ≡ length text
  pub few : size ≤ 42 * place

module _ (ws : List Word) (place : ℕ) (text : List ℕ) (size : ℕ) (r : Read ws place text size) where
  pub read_more : (i : Instruction) (line : List ℕ) (n : ℕ) → instruction_at ws place ≡ Ok i → line ≡ line_of place i → n ≡ length line → n ≤ 42 → Read ws (place + 1) (text ++ line) (size + n)
  read_more i line n e l p short =
      let few = r.few in
      let size' = r.size' in
      let k = length-append text line in
      record {
        rest = r.rest ∙ ap (before text) (line_ok ws place i e) ∙ before_on text (line_of place i) (listing (place + 1) (drop (place + 1) ws)) ∙ ap (λ x. before (text ++ x) (listing (place + 1) (drop (place + 1) ws))) (sym l);
        size' = omega arith;
        few = omega arith;
      }

  pub read_err : (why : Refusal) → place < length ws → instruction_at ws place ≡ Err why → listing 0 ws ≡ Err why
  read_err why l e = r.rest ∙ ap (before text) (line_err ws place why l e)

  pub read_fits : (room : ℕ) → IsOkAnd (listing 0 ws) (λ all. length all ≤ room) → size ≤ room
  read_fits room = by (listing 0 ws) r.rest
    where
      by : (all : Result (List ℕ) Refusal) → all ≡ before text (listing place (drop place ws)) → IsOkAnd all (λ all. length all ≤ room) → size ≤ room
      by (Ok all) e l = let k = before_size text all (listing place (drop place ws)) (sym e) in let s = r.size' in omega arith
      by (Err why) e l = absurd l

-- the line goes behind the text, over what the output held
pub put_line : (text line first out ys : List ℕ) (end n : ℕ) → end ≡ length text → out ≡ text ++ drop end first → n ≡ length line → ys ≡ line → put_mid end (end + n - end) out ys ≡ (text ++ line) ++ drop (end + n) first
put_line text line first out ys end n e o k y =
    let size : end + n - end ≡ n = omega arith in
    let front : take end out ≡ text = ap (take end) o ∙ take_at text (drop end first) end (sym e) in
    let behind : drop end out ≡ drop end first = ap (drop end) o ∙ drop_at text (drop end first) end (sym e) in
    let rest : drop (end + n - end) (drop end out) ≡ drop (end + n) first = ap (λ m. drop m (drop end out)) size ∙ ap (drop n) behind ∙ drop-drop n end first in
    let all : put_mid end (end + n - end) out ys ≡ text ++ (line ++ drop (end + n) first) = rw (front, y, rest) in
    all ∙ sym (append_assoc text line (drop (end + n) first))

-- so the output stays as long as it was
pub same_room : (text first out : List ℕ) (end : ℕ) → end ≡ length text → end ≤ length first → out ≡ text ++ drop end first → length out ≡ length first
same_room text first out end e l o =
    let n = length-append text (drop end first) in
    let d = length-drop end first in
    let k = ap length o in
    omega arith
