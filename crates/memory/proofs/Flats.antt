-- Words in bytes, one read and one written.
use Rattle.std.proofs.Common.{◌≡◌, ℕ, ◌+◌, ◌-◌, ◌*◌, ◌/◌, ◌<◌, ◌≤◌, List, [], ◌∷◌, ◌++◌, length, get_or, take, Some, sym, ap, ◌∙◌, arith, length-set, length-take, get_or-take}
use Rattle.std.specs.List.{slice_get}
use Rattle.std.specs.Simd.{first_chunks}
use Rattle.std.proofs.lemmas.List.FromFn.{length-map-range_with_len, get_or-map-range_with_len, map-range_with_len_more}
use Rattle.std.proofs.lemmas.Option.{slice_get-get_or}
use Rattle.std.proofs.lemmas.Bool.Decides.{nat_tests}
use borrow.Rule.Slice.PartMut.{put_mid}
use Rattle.bytecode.specs.declared.instruction.Word.{Word}
use Rattle.bytecode.specs.Words.{bytes_of}
use Rattle.memory.specs.Bytes.{word_at, put}
use Rattle.memory.specs.Lists.{appended}
use Rattle.memory.specs.Flat.{words, room_in, put_in}
use Rattle.memory.proofs.Bytes.{alike, same_bytes, beside, put_back, chunk_word, copied_put}

-- there are as many words as are counted
pub length_words : (bytes : List ℕ) (n : ℕ) → length (words bytes n) ≡ n
length_words bytes n = length-map-range_with_len (λ i. word_at bytes (3 * i)) 0 n

-- the word of a chunk of three, among the first n words
pub chunk_there :
    (bytes : List ℕ) (n m i : ℕ) (w : Word) → m ≡ n → 3 * n ≤ length bytes → i < length (take (3 * m) bytes) / 3 →
    bytes_of w ≡ get_or (first_chunks 3 (length (take (3 * m) bytes) / 3) (take (3 * m) bytes)) i [] → Some w ≡ slice_get (words bytes n) i
chunk_there bytes n m i w is fits l e =
    let within : i < n = omega (arith, length-take (3 * m) bytes) in
    let a : w ≡ word_at (take (3 * m) bytes) (3 * i) = chunk_word (take (3 * m) bytes) _ i w l e in
    let b : word_at (take (3 * m) bytes) (3 * i) ≡ word_at bytes (3 * i) = same_bytes bytes (take (3 * m) bytes) (3 * i) (λ j p q. get_or-take (3 * m) bytes j 0 (omega arith)) in
    let d : slice_get (words bytes n) i ≡ Some (get_or (words bytes n) i w) = slice_get-get_or (words bytes n) i w (rw length_words within) in
    sym (d ∙ ap Some (get_or-map-range_with_len (λ k. word_at bytes (3 * k)) 0 n i i w within (omega arith) ∙ sym (a ∙ b)))

-- a word put behind n words is one more
pub words_put : (bytes : List ℕ) (n : ℕ) (w : Word) → 3 * n + 2 < length bytes → words (put bytes (3 * n) w) (n + 1) ≡ words bytes n ++ w ∷ []
words_put bytes n w l =
    let after = put bytes (3 * n) w in
    let more : words after (n + 1) ≡ words after n ++ word_at after (3 * n) ∷ [] = map-range_with_len_more (λ i. word_at after (3 * i)) 0 n n (omega arith) in
    let same : words after n ≡ words bytes n = alike (λ i. word_at after (3 * i)) (λ i. word_at bytes (3 * i)) n (λ k h. same_bytes bytes after (3 * k) (λ j p q. beside bytes (3 * n) w.opcode (3 * n + 1) w.sign (3 * n + 2) w.value j (λ e. omega arith) (λ e. omega arith) (λ e. omega arith))) in
    let here = put_back bytes (3 * n) w l in
    cc

-- The bytes of a word are copied behind n words, with room for it.
module _ (bytes : List ℕ) (n place : ℕ) (part : List ℕ) (w : Word) (is : place ≡ length (words bytes n)) (fits : n ≤ room_in bytes)
    (less : place ≡ room_in bytes → ⊥) (copied : part ≡ bytes_of w) where
  added : put_mid (3 * place) (3 * place + 3 - 3 * place) bytes part ≡ put bytes (3 * n) w
  added =
      let same : place ≡ n = is ∙ length_words bytes n in copied_put bytes (3 * place) part w copied (omega arith) ∙ ap (λ k. put bytes (3 * k) w) same

  pub added_fits : n + 1 ≤ room_in (put_mid (3 * place) (3 * place + 3 - 3 * place) bytes part)
  added_fits =
      let same : place ≡ n = is ∙ length_words bytes n in rw added (simp length-set (omega arith))

  pub added_listed : words (put_mid (3 * place) (3 * place + 3 - 3 * place) bytes part) (n + 1) ≡ appended (words bytes n) (room_in bytes) w
  added_listed =
      let count = length_words bytes n in
      let put_there = added in
      let listed = words_put bytes n w (omega arith) in
      grind (arith, nat_tests)

  pub added_written : put_mid (3 * place) (3 * place + 3 - 3 * place) bytes part ≡ put_in bytes n w
  added_written = let count = length_words bytes n in let put_there = added in grind (arith, nat_tests)

-- nothing is written where there is no room
pub full_written : (bytes : List ℕ) (n : ℕ) (w : Word) → n ≡ room_in bytes → bytes ≡ put_in bytes n w
full_written bytes n w e = grind (arith, nat_tests)

-- what the check is told of a flat memory
pub ruleset flats = (length_words, added_fits, added_listed, added_written, full_written)
