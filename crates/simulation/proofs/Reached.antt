-- Steps one after another.
use Rattle.std.proofs.Common.{◌≡◌, ℕ, zero, suc, ◌+◌, ◌<◌, ◌≤◌, List, [], ◌∷◌, length, drop, Some, None, Ok, Err, Option, Result, sym, refl, ap, ◌∙◌, arith}
use Rattle.std.proofs.Math.Nat.{zero-add, suc-add, add_assoc}
use Rattle.std.proofs.lemmas.Bool.{cond-true, cond-false, ne_eqb, eq-eqb, le-leb}
use Rattle.arithmetic.specs.Words.{Ops}
use Rattle.bytecode.specs.Words.{plus}
use Rattle.bytecode.specs.declared.instruction.Instruction.{Instruction}
use Rattle.bytecode.specs.declared.instruction.Instruction.TheVariants.{Push}
use Rattle.machine.specs.Runs.{ended, goes, runs}
use Rattle.machine.specs.Steps.{State, state, place, step, fetched, performed, went, branched}
use Rattle.refusal.specs.declared.Refusal.{Refusal}
use Rattle.refusal.specs.declared.Refusal.TheVariants.{BadWord, Overflow}

module _ {W : Type 0} (ops : Ops W) (end : ℕ) (get : ℕ → Option (Instruction × ℕ)) (past : (p : ℕ) → end ≤ p → get p ≡ None) where
  -- k steps lead from one state to another
  abbrev pub Reaches : ℕ → State W → State W → Type 0
  Reaches zero s v = s ≡ v
  Reaches (suc k) s v = (u : State W) × ((step ops end get s ≡ Ok u) × Reaches k u v)

  pub reaches_join : (k l : ℕ) (s u v : State W) → Reaches k s u → Reaches l u v → Reaches (k + l) s v
  reaches_join zero l s u v e r = rw (e, zero-add) r
  reaches_join (suc k) l s u v (w, (e, q)) r = rw suc-add (w, (e, reaches_join k l w u v q r))

  -- the same, with the steps counted
  pub record Comes (k p : ℕ) (a : W) (st fs : List W) (n q : ℕ) (v : W) (u gs : List W) : Type 0 where
    pub reaches : Reaches k (state p a st fs n) (state q v u gs (n + k))

  at_end : (s : State W) → place s ≡ end → step ops end get s ≡ Err (BadWord (place s))
  at_end s h = let le : end ≤ place s = omega arith in ap (λ o. fetched ops end o s) (past (place s) le)

  -- a step that does not end the code is made
  goes_on : (b : ℕ) (s : State W) (r : Result (State W) Refusal) → step ops end get s ≡ r → (r ≡ Err (BadWord (place s)) → ⊥) → runs ops end get (suc b) s ≡ goes s r (runs ops end get b)
  goes_on b s r e n = cond-false _ _ _ (ne_eqb (place s) end (λ h. n (sym e ∙ at_end s h))) ∙ ap (λ x. goes s x (runs ops end get b)) e

  pub runs_reaches : (k b : ℕ) (s u : State W) → Reaches k s u → runs ops end get (k + b) s ≡ runs ops end get b u
  runs_reaches zero b s u e = rw (e, zero-add)
  runs_reaches (suc k) b s u (w, (e, r)) = rw suc-add (goes_on (k + b) s (Ok w) e (λ z. cc) ∙ runs_reaches k b w u r)

  pub runs_end : (b : ℕ) (s : State W) → place s ≡ end → runs ops end get b s ≡ ended s None
  runs_end zero s e = cond-true _ _ _ (eq-eqb (place s) end e)
  runs_end (suc b) s e = cond-true _ _ _ (eq-eqb (place s) end e)

  pub runs_stop : (b p : ℕ) (s : State W) → step ops end get s ≡ Err (Overflow p) → runs ops end get (suc b) s ≡ ended s (Some (Overflow p))
  runs_stop b p s e = goes_on b s (Err (Overflow p)) e (λ z. cc)

  -- what a step does, by the instruction that lies there
  pub step_at : (i : Instruction) (p : ℕ) (a : W) (st fs : List W) (n : ℕ) → get p ≡ Some (i, p + 1) →
      step ops end get (state p a st fs n) ≡ performed ops end i (p + 1) (state p a st fs n)
  step_at i p a st fs n e = ap (λ o. fetched ops end o (state p a st fs n)) e

  pub pushes : (p : ℕ) (a : W) (st fs : List W) (n : ℕ) → get p ≡ Some (Push, p + 1) → 0 < length fs →
      step ops end get (state p a st fs n) ≡ Ok (state (p + 1) a (a ∷ st) (drop 1 fs) (n + 1))
  pushes p a st [] n e h = absurd (omega arith)
  pushes p a st (x ∷ fs) n e h = step_at Push p a st (x ∷ fs) n e

  pub branches : (k p : ℕ) (a : W) (st fs : List W) (n : ℕ) → p + k ≤ end → branched end (plus k) (state p a st fs n) ≡ Ok (state (p + k) a st fs (n + 1))
  branches k p a st fs n h = ap (λ o. went o (state p a st fs n)) (cond-true _ _ _ (le-leb (p + k) end h))

module _ {W : Type 0} {ops : Ops W} {end : ℕ} {get : ℕ → Option (Instruction × ℕ)} {past : (p : ℕ) → end ≤ p → get p ≡ None} {k p n q : ℕ} {a v : W} {st fs u gs : List W} where
  pub comes_join : {l r : ℕ} {w : W} {x hs : List W} → Comes ops end get past k p a st fs n q v u gs → Comes ops end get past l q v u gs (n + k) r w x hs → Comes ops end get past (k + l) p a st fs n r w x hs
  comes_join {l} {r} {w} {x} {hs} c d =
      record { reaches = rw (← add_assoc n k l) (reaches_join ops end get past k l (state p a st fs n) (state q v u gs (n + k)) (state r w x hs (n + k + l)) c.reaches d.reaches) }

  -- one step more
  pub comes_on : {r : ℕ} {w : W} {x hs : List W} → Comes ops end get past k p a st fs n q v u gs → step ops end get (state q v u gs (n + k)) ≡ Ok (state r w x hs (n + k + 1)) → Comes ops end get past (k + 1) p a st fs n r w x hs
  comes_on {r} {w} {x} {hs} c e = comes_join c (record { reaches = (state r w x hs (n + k + 1), (e, refl)) })
