-- A word in bytes, written and read.
use Rattle.std.proofs.Common.{◌≡◌, ℕ, zero, suc, ◌+◌, ◌-◌, ◌*◌, ◌<◌, ◌≤◌, ◌≢◌, List, [], ◌∷◌, map, length, get_or, take, drop, set, refl, ap, ◌∙◌, arith, get_or-take, get_or-drop}
use Rattle.std.specs.List.{range_with_len}
use Rattle.std.specs.Simd.{first_chunks}
use borrow.Rule.Slice.PartMut.{put_mid}
use Rattle.std.proofs.lemmas.List.FromFn.{length-map-range_with_len, get_or-map-range_with_len, fill_by_all}
use Rattle.std.proofs.lemmas.Grind.{common_steps}
use Rattle.bytecode.specs.declared.instruction.Word.{Word}
use Rattle.bytecode.specs.Words.{word, bytes_of}
use Rattle.memory.specs.Bytes.{word_at, put}

pub same_word : (x y : Word) → x.opcode ≡ y.opcode → x.sign ≡ y.sign → x.value ≡ y.value → x ≡ y
same_word x y p q r = λ i. record { opcode = p i; sign = q i; value = r i }

-- lists made from a function of the index are equal if the functions are at every index
pub alike :
    (f g : ℕ → Word) (n : ℕ) → ((k : ℕ) → k < n → f k ≡ g k) → map f (range_with_len 0 n) ≡ map g (range_with_len 0 n)
alike f g n h =
    fill_by_all g (map f (range_with_len 0 n)) n (word 0 0 0) (length-map-range_with_len f 0 n) (λ k l. get_or-map-range_with_len f 0 n k k (word 0 0 0) l (omega arith) ∙ h k l)

-- a word depends on its three bytes
pub same_bytes :
    (bytes after : List ℕ) (at : ℕ) →
    ((j : ℕ) → at ≤ j → j ≤ at + 2 → get_or after j 0 ≡ get_or bytes j 0) → word_at after at ≡ word_at bytes at
same_bytes bytes after at h =
    same_word _ _ (h at (omega arith) (omega arith)) (h (at + 1) (omega arith) (omega arith)) (h (at + 2) (omega arith) (omega arith))

-- a word of a part of the bytes
pub part_word : (bytes : List ℕ) (a n j t : ℕ) → j + 2 < n → a + j ≡ t → word_at (take n (drop a bytes)) j ≡ word_at bytes t
part_word bytes a n j t l is =
    let at : (i k : ℕ) → i < n → a + i ≡ k → get_or (take n (drop a bytes)) i 0 ≡ get_or bytes k 0 = λ i k p e. get_or-take n (drop a bytes) i 0 p ∙ (get_or-drop a bytes i 0 ∙ ap (λ m. get_or bytes m 0) e) in
    same_word _ _ (at j t (omega arith) is) (at (j + 1) (t + 1) (omega arith) (omega arith)) (at (j + 2) (t + 2) (omega arith) (omega arith))

-- a byte that none of three writes touches
pub beside :
    (bytes : List ℕ) (a x b y c z j : ℕ) →
    j ≢ a → j ≢ b → j ≢ c → get_or (set (set (set bytes a x) b y) c z) j 0 ≡ get_or bytes j 0
beside bytes a x b y c z j p q r = grind (arith, common_steps)

-- a word that is put is read back
pub put_back : (bytes : List ℕ) (at : ℕ) (w : Word) → at + 2 < length bytes → word_at (put bytes at w) at ≡ w
put_back bytes at w l = same_word _ _ (grind (arith, common_steps)) (grind (arith, common_steps)) (grind (arith, common_steps))

-- a byte of a chunk of three
chunk_byte : (bytes : List ℕ) (n i k : ℕ) → i < n → k < 3 → get_or (get_or (first_chunks 3 n bytes) i []) k 0 ≡ get_or bytes (3 * i + k) 0
chunk_byte bytes zero i k l p = absurd (omega arith)
chunk_byte bytes (suc n) zero k l p = get_or-take 3 bytes k 0 p ∙ ap (λ j. get_or bytes j 0) (let e : k ≡ 3 * 0 + k = omega arith in e)
chunk_byte bytes (suc n) (suc i) k l p =
    chunk_byte (drop 3 bytes) n i k (omega arith) p ∙ (get_or-drop 3 bytes (3 * i + k) 0 ∙ ap (λ j. get_or bytes j 0) (let e : 3 + (3 * i + k) ≡ 3 * suc i + k = omega arith in e))

-- the word of a chunk of three
pub chunk_word : (bytes : List ℕ) (n i : ℕ) (w : Word) → i < n → bytes_of w ≡ get_or (first_chunks 3 n bytes) i [] → w ≡ word_at bytes (3 * i)
chunk_word bytes n i w l e =
    let at : (k : ℕ) → k < 3 → get_or (bytes_of w) k 0 ≡ get_or bytes (3 * i + k) 0 = λ k p. ap (λ xs. get_or xs k 0) e ∙ chunk_byte bytes n i k l p in
    same_word _ _ (at 0 (omega arith) ∙ ap (λ j. get_or bytes j 0) (let z : 3 * i + 0 ≡ 3 * i = omega arith in z)) (at 1 (omega arith)) (at 2 (omega arith))

-- a word is put by a copy of its three bytes
copied : (bytes : List ℕ) (at a b c : ℕ) → at + 2 < length bytes → put_mid at 3 bytes (a ∷ (b ∷ (c ∷ []))) ≡ set (set (set bytes at a) (suc at) b) (suc (suc at)) c
copied [] at a b c l = absurd (omega arith)
copied (x ∷ []) zero a b c l = absurd (omega arith)
copied (x ∷ (y ∷ [])) zero a b c l = absurd (omega arith)
copied (x ∷ (y ∷ (z ∷ rest))) zero a b c l = refl
copied (x ∷ rest) (suc at) a b c l = ap (λ xs. x ∷ xs) (copied rest at a b c (omega arith))

pub copied_put : (bytes : List ℕ) (at : ℕ) (part : List ℕ) (w : Word) → part ≡ bytes_of w → at + 2 < length bytes → put_mid at (at + 3 - at) bytes part ≡ put bytes at w
copied_put bytes at part w is l =
    let three : at + 3 - at ≡ 3 = omega arith in
    let one : suc at ≡ at + 1 = omega arith in
    let two : suc (suc at) ≡ at + 2 = omega arith in
    ap (λ k. put_mid at k bytes part) three ∙ (ap (put_mid at 3 bytes) is ∙ (copied bytes at w.opcode w.sign w.value l ∙ (ap (λ k. set (set (set bytes at w.opcode) k w.sign) (suc (suc at)) w.value) one ∙ ap (λ k. set (set (set bytes at w.opcode) (at + 1) w.sign) k w.value) two)))
