-- The list of the records stays as it is under every write; only the border between the rule's and the free ones moves.
use Rattle.std.proofs.Common.{◌≡◌, ℕ, zero, suc, ◌+◌, ◌*◌, ◌<◌, ◌≤◌, ◌≢◌, List, length, get_or, sym, ap, ◌∙◌, inl, inr, add-one, arith, length-set}
use Rattle.std.proofs.lemmas.Bool.{cases_eq, cases_lt}
use Rattle.std.proofs.lemmas.Grind.{common_steps}
use Rattle.records.specs.Layout.{next, first_free, reached, Linked}
use Rattle.records.specs.Writes.{taken, joined}

module _ {bytes : List ℕ} {n : ℕ} {order place : ℕ → ℕ} (h : Linked bytes n order place) where
  -- different places hold different records
  pub differ : (i j : ℕ) → i < 64 → j < 64 → i ≢ j → order i ≢ order j
  differ i j p q ne e = ne (sym (h.found i p) ∙ (ap place e ∙ h.found j q))

  -- only the first place holds record 0
  pub not_head : (i : ℕ) → 0 < i → i < 64 → order i ≢ 0
  not_head i p q e = differ i 0 q (omega arith) (λ z. omega arith) (e ∙ sym h.head)

  -- following the links from record 0 goes through the rule's records in order
  pub reached_order : (i : ℕ) → i ≤ n → reached bytes i ≡ order i
  reached_order zero l = sym h.head
  reached_order (suc i) l =
      let border = h.border in
      ap (next bytes) (reached_order i (omega arith)) ∙ (h.links i (omega arith) (λ e. omega arith) ∙ ap order (add-one i))

  -- bytes with the same links are linked alike
  pub same_links :
      (after : List ℕ) →
      length after ≡ 1024 →
      ((k : ℕ) → 4 ≤ k → k < 16 → get_or after k 0 ≡ get_or bytes k 0) →
      ((r : ℕ) → r < 64 → next after r ≡ next bytes r) → first_free after ≡ first_free bytes → Linked after n order place
  same_links after size rest same free =
      record {
        size = size;
        rest = λ k p q. rest k p q ∙ h.rest k p q;
        border = h.border;
        head = h.head;
        tail = h.tail;
        within = h.within;
        found = h.found;
        every = h.every;
        links = λ i l ne. same (order i) (h.within i l) ∙ h.links i l ne;
        ends = same (order n) (h.within n h.border) ∙ h.ends;
        free = free ∙ h.free;
      }

-- a byte behind the first of a record is the first of none
pub inside : (r o j : ℕ) → 16 * o < j → j < 16 * o + 16 → j ≢ 16 * r
inside r o j p q e = elim (cases_lt o r) [ inl l ↦ omega arith | inr l ↦ omega arith ]

-- Taking the first free record moves the border one record on.
pub takes :
    {bytes : List ℕ} {n : ℕ} {order place : ℕ → ℕ} (h : Linked bytes n order place) →
    n < 63 → Linked (taken bytes (order n) (order (n + 1))) (n + 1) order place
takes {bytes} {n} {order} {place} h l =
    let size = h.size in
    let last = order n in
    let fresh = order (n + 1) in
    let last_in : last < 64 = h.within n (omega arith) in
    let fresh_in : fresh < 64 = h.within (n + 1) (omega arith) in
    let two_records : last ≢ fresh = differ h n (n + 1) (omega arith) (omega arith) (λ e. omega arith) in
    record {
      size = simp length-set size;
      rest = λ k p q. grind (arith, common_steps, h.rest k p q);
      border = omega arith;
      head = h.head;
      tail = h.tail;
      within = h.within;
      found = h.found;
      every = h.every;
      links = λ i p q.
          elim (cases_eq i n) [
            | inl e ↦ let same = ap order e in let next_same = ap (λ k. order (k + 1)) e in grind (arith, common_steps)
            | inr u ↦
                let a = differ h i n p (omega arith) u in let b = differ h i (n + 1) p (omega arith) q in grind (arith, common_steps, h.links i p u)
          ];
      ends = grind (arith, common_steps);
      free = grind (arith, common_steps, h.links (n + 1) (omega arith) (λ e. omega arith));
    }

-- Joining the chains moves the border back to record 0.
pub joins :
    {bytes : List ℕ} {n : ℕ} {order place : ℕ → ℕ} (h : Linked bytes n order place) →
    0 < n → Linked (joined bytes (order n)) 0 order place
joins {bytes} {n} {order} {place} h l =
    let size = h.size in
    let border = h.border in
    let last = order n in
    let last_in : last < 64 = h.within n border in
    let some : last ≢ 0 = not_head h n l border in
    record {
      size = simp length-set size;
      rest = λ k p q. grind (arith, common_steps, h.rest k p q);
      border = omega arith;
      head = h.head;
      tail = h.tail;
      within = h.within;
      found = h.found;
      every = h.every;
      links = λ i p q.
          let off = not_head h i (omega arith) p in
          elim (cases_eq i n) [
            | inl e ↦ let same = ap order e in let next_same = ap (λ k. order (k + 1)) e in grind (arith, common_steps, h.free)
            | inr u ↦ let a = differ h i n p border u in grind (arith, common_steps, h.links i p u)
          ];
      ends = grind (arith, common_steps, h.head);
      free = grind (arith, common_steps, h.head, h.links 0 (omega arith) (λ e. omega arith));
    }
