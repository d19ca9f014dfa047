-- Each place of a rule has one height, and a step leads from the height of its place to that of the next.
use Rattle.std.proofs.Common.{◌≡◌, ℕ, ◌+◌, ◌<◌, ◌≤◌, ◌⊎◌, List, [], ◌∷◌, ◌++◌, Some, None, refl, ap, ◌∙◌, subst, inl, inr, arith}
use Rattle.std.specs.List.{slice_get}
use Rattle.std.proofs.lemmas.Option.{slice_get_past}
use Rattle.bytecode.specs.Words.{plus}
use Rattle.bytecode.specs.declared.instruction.Instruction.{Instruction}
use Rattle.bytecode.specs.declared.instruction.Instruction.TheVariants.{Push, Consti, Popi, Branch, Branchif}
use Rattle.language.specs.Code.{Slot, bound, waiting, code, long, tall, translation, field_slots}
use Rattle.language.specs.Operators.{row_of, prefix_row_of}
use Rattle.language.specs.Tree.{Tree, number, truth, name, prefix, binary, choose, bind}
use Rattle.language.specs.declared.operator.Operator.{Operator}
use Rattle.language.specs.declared.operator.Operator.TheVariants.{Or, And, Equal, AtMost, Plus, Times}
use Rattle.language.specs.declared.operator.Prefix.{Prefix}
use Rattle.language.specs.declared.operator.Prefix.TheVariants.{Not, Increment}
use Rattle.effects.specs.Effects.{after, Next, Leads, Walks, here, more, steps}
use Rattle.effects.specs.Laws.{Kept, KeepsHeight, GoesAhead, IsBrief}
use Rattle.effects.proofs.Lengths.{Lies, cut_code, lies}
use Rattle.language.proofs.Lengths.{length-code, long_some}

-- the place q is p, and the height h is b
pub record Spot (p b q h : ℕ) : Type 0 where
  pub place : q ≡ p
  pub high : h ≡ b

-- the places of a tree's words from p on, with their heights from b on
abbrev pub Inside : Tree → ℕ → ℕ → ℕ → ℕ → Type 0
Inside (number k x) p b q h = Spot p b q h
Inside (truth c x) p b q h = Spot p b q h
Inside (name k x) p b q h = Spot p b q h
Inside (prefix o x t) p b q h =
    Inside t p b q h ⊎ (Spot (p + long t) b q h ⊎ (Spot (p + long t + 1) (b + 1) q h ⊎ Spot (p + long t + 1 + 1) (b + 1) q h))
Inside (binary o x t u) p b q h =
    Inside t p b q h ⊎ (Spot (p + long t) b q h ⊎ (Inside u (p + long t + 1) (b + 1) q h ⊎ Spot (p + long t + 1 + long u) (b + 1) q h))
Inside (choose x t u v) p b q h =
    Inside t p b q h ⊎ (Spot (p + long t) b q h ⊎ (Inside v (p + long t + 1) b q h
    ⊎ (Spot (p + long t + 1 + long v) b q h ⊎ Inside u (p + long t + 1 + long v + 1) b q h)))
Inside (bind x t u) p b q h =
    Inside t p b q h ⊎ (Spot (p + long t) b q h ⊎ (Inside u (p + long t + 1) (b + 1) q h ⊎ Spot (p + long t + 1 + long u) (b + 1) q h))

-- a tree begins at its first place
pub begins : (t : Tree) (p b q h : ℕ) → Spot p b q h → Inside t p b q h
begins (number k x) p b q h e = e
begins (truth c x) p b q h e = e
begins (name k x) p b q h e = e
begins (prefix o x t) p b q h e = inl (begins t p b q h e)
begins (binary o x t u) p b q h e = inl (begins t p b q h e)
begins (choose x t u v) p b q h e = inl (begins t p b q h e)
begins (bind x t u) p b q h e = inl (begins t p b q h e)

-- what is known of a place inside
pub record Between (p b l n q h : ℕ) : Type 0 where
  pub from : p ≤ q
  pub to : q < p + l
  pub low : b ≤ h
  pub high : h ≤ b + n

pub between : (t : Tree) (p b q h : ℕ) → Inside t p b q h → Between p b (long t) (tall t) q h
between (number k x) p b q h e = record { from = omega arith; to = omega arith; low = omega arith; high = omega arith }
between (truth c x) p b q h e = record { from = omega arith; to = omega arith; low = omega arith; high = omega arith }
between (name k x) p b q h e = record { from = omega arith; to = omega arith; low = omega arith; high = omega arith }
between (prefix o x t) p b q h (inl e) =
    let i = between t p b q h e in
    record { from = omega arith; to = omega arith; low = omega arith; high = omega arith }
between (prefix o x t) p b q h (inr (inl e)) = record { from = omega arith; to = omega arith; low = omega arith; high = omega arith }
between (prefix o x t) p b q h (inr (inr (inl e))) = record { from = omega arith; to = omega arith; low = omega arith; high = omega arith }
between (prefix o x t) p b q h (inr (inr (inr e))) = record { from = omega arith; to = omega arith; low = omega arith; high = omega arith }
between (binary o x t u) p b q h (inl e) =
    let i = between t p b q h e in
    record { from = omega arith; to = omega arith; low = omega arith; high = omega arith }
between (binary o x t u) p b q h (inr (inl e)) = record { from = omega arith; to = omega arith; low = omega arith; high = omega arith }
between (binary o x t u) p b q h (inr (inr (inl e))) =
    let i = between u (p + long t + 1) (b + 1) q h e in
    record { from = omega arith; to = omega arith; low = omega arith; high = omega arith }
between (binary o x t u) p b q h (inr (inr (inr e))) = record { from = omega arith; to = omega arith; low = omega arith; high = omega arith }
between (choose x t u v) p b q h (inl e) =
    let i = between t p b q h e in
    record { from = omega arith; to = omega arith; low = omega arith; high = omega arith }
between (choose x t u v) p b q h (inr (inl e)) = record { from = omega arith; to = omega arith; low = omega arith; high = omega arith }
between (choose x t u v) p b q h (inr (inr (inl e))) =
    let i = between v (p + long t + 1) b q h e in
    record { from = omega arith; to = omega arith; low = omega arith; high = omega arith }
between (choose x t u v) p b q h (inr (inr (inr (inl e)))) =
    let i = long_some u in
    record { from = omega arith; to = omega arith; low = omega arith; high = omega arith }
between (choose x t u v) p b q h (inr (inr (inr (inr e)))) =
    let i = between u (p + long t + 1 + long v + 1) b q h e in
    record { from = omega arith; to = omega arith; low = omega arith; high = omega arith }
between (bind x t u) p b q h (inl e) =
    let i = between t p b q h e in
    record { from = omega arith; to = omega arith; low = omega arith; high = omega arith }
between (bind x t u) p b q h (inr (inl e)) = record { from = omega arith; to = omega arith; low = omega arith; high = omega arith }
between (bind x t u) p b q h (inr (inr (inl e))) =
    let i = between u (p + long t + 1) (b + 1) q h e in
    record { from = omega arith; to = omega arith; low = omega arith; high = omega arith }
between (bind x t u) p b q h (inr (inr (inr e))) = record { from = omega arith; to = omega arith; low = omega arith; high = omega arith }

-- a step from inside leads ahead, and stays inside or leaves at the end, as high as the tree began
abbrev pub Steps : Tree → ℕ → ℕ → ℕ → ℕ → ℕ → Type 0
Steps t p b q r j = (q < r) × (Inside t p b r j ⊎ Spot (p + long t) b r j)

-- an operator's instruction takes one word off
operates : (o : Operator) (p b r j : ℕ) → Next (row_of o).instruction p r → j ≡ after (row_of o).instruction (b + 1) → Spot (p + 1) b r j
operates Or p b r j n e = record { place = n; high = omega arith }
operates And p b r j n e = record { place = n; high = omega arith }
operates Equal p b r j n e = record { place = n; high = omega arith }
operates AtMost p b r j n e = record { place = n; high = omega arith }
operates Plus p b r j n e = record { place = n; high = omega arith }
operates Times p b r j n e = record { place = n; high = omega arith }

prefixes : (o : Prefix) (p b r j : ℕ) → Next (prefix_row_of o).instruction p r → j ≡ after (prefix_row_of o).instruction (b + 1) → Spot (p + 1) b r j
prefixes Not p b r j n e = record { place = n; high = omega arith }
prefixes Increment p b r j n e = record { place = n; high = omega arith }

module _ (whole : List Instruction) (q h r j : ℕ) (go : Leads whole q h r j) where
  -- at a known word the step is that of the word
  does : (i : Instruction) (p b : ℕ) → slice_get whole p ≡ Some i → Spot p b q h → Next i p r × (j ≡ after i b)
  does i p b there at =
      let f : slice_get whole q ≡ Some i = ap (slice_get whole) at.place ∙ there in
      let g = go.there in
      let e : go.word ≡ i = cc in
      let n : Next i q r = subst (λ w. Next w q r) e go.next in
      let m : j ≡ after i h = subst (λ w. j ≡ after w h) e go.high in
      (subst (λ x. Next i x r) at.place n, subst (λ x. j ≡ after i x) at.high m)

  leaf : (i : Instruction) (p b : ℕ) → slice_get whole p ≡ Some i → Spot p b q h → (Next i p r → r ≡ p + 1) → after i b ≡ b → (q < r) × (Spot p b r j ⊎ Spot (p + 1) b r j)
  leaf i p b there at next keeps =
      let d = does i p b there at in
      let n = next d.0 in
      let m = d.1 in
      (omega arith, inr (record { place = n; high = omega arith }))

  -- two parts: the first is pushed, and the last word takes it off
  abbrev Two : Tree → Tree → ℕ → ℕ → ℕ → ℕ → Type 0
  Two t u p b x k =
      Inside t p b x k ⊎ (Spot (p + long t) b x k ⊎ (Inside u (p + long t + 1) (b + 1) x k ⊎ Spot (p + long t + 1 + long u) (b + 1) x k))

  two : (t u : Tree) (p b : ℕ) → slice_get whole (p + long t) ≡ Some Push →
      (Inside t p b q h → Steps t p b q r j) → (Inside u (p + long t + 1) (b + 1) q h → Steps u (p + long t + 1) (b + 1) q r j) →
      (Spot (p + long t + 1 + long u) (b + 1) q h → Spot (p + long t + 1 + long u + 1) b r j) →
      Two t u p b q h → (q < r) × (Two t u p b r j ⊎ Spot (p + (long t + 1 + long u + 1)) b r j)
  two t u p b push first second last (inl e) = from_first (first e)
    where
      from_first : Steps t p b q r j → (q < r) × (Two t u p b r j ⊎ Spot (p + (long t + 1 + long u + 1)) b r j)
      from_first (lt, inl i) = (lt, inl (inl i))
      from_first (lt, inr i) = (lt, inl (inr (inl i)))
  two t u p b push first second last (inr (inl e)) =
      let d = does Push (p + long t) b push e in
      let n : r ≡ p + long t + 1 = d.0 in
      let m = d.1 in
      (omega arith, inl (inr (inr (inl (begins u (p + long t + 1) (b + 1) r j (record { place = n; high = omega arith }))))))
  two t u p b push first second last (inr (inr (inl e))) = from_second (second e)
    where
      from_second : Steps u (p + long t + 1) (b + 1) q r j → (q < r) × (Two t u p b r j ⊎ Spot (p + (long t + 1 + long u + 1)) b r j)
      from_second (lt, inl i) = (lt, inl (inr (inr (inl i))))
      from_second (lt, inr i) = (lt, inl (inr (inr (inr i))))
  two t u p b push first second last (inr (inr (inr e))) =
      let s = last e in
      (omega arith, inr (record { place = omega arith; high = s.high }))

  one : (o : Prefix) (t : Tree) (x p b : ℕ) → Lies whole (p + long t) (Push ∷ Consti (prefix_row_of o).constant ∷ (prefix_row_of o).instruction ∷ []) →
      (Inside t p b q h → Steps t p b q r j) → Inside (prefix o x t) p b q h → Steps (prefix o x t) p b q r j
  one o t x p b c first (inl e) = from_first (first e)
    where
      from_first : Steps t p b q r j → Steps (prefix o x t) p b q r j
      from_first (lt, inl i) = (lt, inl (inl i))
      from_first (lt, inr i) = (lt, inl (inr (inl i)))
  one o t x p b c first (inr (inl e)) =
      let d = does Push (p + long t) b c.0 e in
      let n : r ≡ p + long t + 1 = d.0 in
      let m = d.1 in
      (omega arith, inl (inr (inr (inl (record { place = n; high = omega arith })))))
  one o t x p b c first (inr (inr (inl e))) =
      let d = does (Consti (prefix_row_of o).constant) (p + long t + 1) (b + 1) c.1.0 e in
      let n : r ≡ p + long t + 1 + 1 = d.0 in
      let m = d.1 in
      (omega arith, inl (inr (inr (inr (record { place = n; high = omega arith })))))
  one o t x p b c first (inr (inr (inr e))) =
      let d = does (prefix_row_of o).instruction (p + long t + 1 + 1) (b + 1) c.1.1.0 e in
      let s = prefixes o (p + long t + 1 + 1) b r j d.0 d.1 in
      (omega arith, inr (record { place = omega arith; high = s.high }))

  -- an if: its condition, and then one of the branches
  three : (t u v : Tree) (x p b : ℕ) → slice_get whole (p + long t) ≡ Some (Branchif (plus (long v + 2))) →
      slice_get whole (p + long t + 1 + long v) ≡ Some (Branch (plus (long u + 1))) →
      (Inside t p b q h → Steps t p b q r j) → (Inside v (p + long t + 1) b q h → Steps v (p + long t + 1) b q r j) →
      (Inside u (p + long t + 1 + long v + 1) b q h → Steps u (p + long t + 1 + long v + 1) b q r j) →
      Inside (choose x t u v) p b q h → Steps (choose x t u v) p b q r j
  three t u v x p b test skip first other chosen (inl e) = from_first (first e)
    where
      from_first : Steps t p b q r j → Steps (choose x t u v) p b q r j
      from_first (lt, inl i) = (lt, inl (inl i))
      from_first (lt, inr i) = (lt, inl (inr (inl i)))
  three t u v x p b test skip first other chosen (inr (inl e)) =
      let d = does (Branchif (plus (long v + 2))) (p + long t) b test e in
      ways d.0 d.1
    where
      ways : (r ≡ p + long t + 1) ⊎ (r ≡ p + long t + (long v + 2)) → j ≡ after (Branchif (plus (long v + 2))) b → Steps (choose x t u v) p b q r j
      ways (inl n) m =
          (omega arith, inl (inr (inr (inl (begins v (p + long t + 1) b r j (record { place = n; high = omega arith }))))))
      ways (inr n) m =
          (omega arith, inl (inr (inr (inr (inr (begins u (p + long t + 1 + long v + 1) b r j (record { place = omega arith; high = omega arith })))))))
  three t u v x p b test skip first other chosen (inr (inr (inl e))) = from_other (other e)
    where
      from_other : Steps v (p + long t + 1) b q r j → Steps (choose x t u v) p b q r j
      from_other (lt, inl i) = (lt, inl (inr (inr (inl i))))
      from_other (lt, inr i) = (lt, inl (inr (inr (inr (inl i)))))
  three t u v x p b test skip first other chosen (inr (inr (inr (inl e)))) =
      let d = does (Branch (plus (long u + 1))) (p + long t + 1 + long v) b skip e in
      let n : r ≡ p + long t + 1 + long v + (long u + 1) = d.0 in
      let m = d.1 in
      (omega arith, inr (record { place = omega arith; high = omega arith }))
  three t u v x p b test skip first other chosen (inr (inr (inr (inr e)))) = from_chosen (chosen e)
    where
      from_chosen : Steps u (p + long t + 1 + long v + 1) b q r j → Steps (choose x t u v) p b q r j
      from_chosen (lt, inl i) = (lt, inl (inr (inr (inr (inr i)))))
      from_chosen (lt, inr i) = (lt, inr (record { place = omega arith; high = i.high }))

  pub stays : (t : Tree) (s : List Slot) (p b : ℕ) → Lies whole p (code s t) → Inside t p b q h → Steps t p b q r j
  stays (number k x) s p b c e = leaf (Consti k) p b c.0 e (λ n. n) (omega arith)
  stays (truth v x) s p b c e = leaf _ p b c.0 e (λ n. n) (omega arith)
  stays (name k x) s p b c e = leaf _ p b c.0 e (λ n. n) (omega arith)
  stays (prefix o x t) s p b c e =
      let d = cut_code whole s t (Push ∷ Consti (prefix_row_of o).constant ∷ (prefix_row_of o).instruction ∷ []) p c in
      one o t x p b d.1 (λ i. stays t s p b d.0 i) e
  stays (binary o x t u) s p b c e =
      let d = cut_code whole s t (Push ∷ (code (waiting ∷ s) u ++ (row_of o).instruction ∷ [])) p c in
      let f = cut_code whole (waiting ∷ s) u ((row_of o).instruction ∷ []) (p + long t + 1) d.1.1 in
      two t u p b d.1.0 (λ i. stays t s p b d.0 i) (λ i. stays u (waiting ∷ s) (p + long t + 1) (b + 1) f.0 i)
      (λ i.
      let g = does (row_of o).instruction (p + long t + 1 + long u) (b + 1) f.1.0 i in
      operates o (p + long t + 1 + long u) b r j g.0 g.1) e
  stays (choose x t u v) s p b c e =
      let d = cut_code whole s t (Branchif (plus (long v + 2)) ∷ (code s v ++ Branch (plus (long u + 1)) ∷ code s u)) p c in
      let f = cut_code whole s v (Branch (plus (long u + 1)) ∷ code s u) (p + long t + 1) d.1.1 in
      three t u v x p b d.1.0 f.1.0 (λ i. stays t s p b d.0 i) (λ i. stays v s (p + long t + 1) b f.0 i)
      (λ i. stays u s (p + long t + 1 + long v + 1) b f.1.1 i) e
  stays (bind x t u) s p b c e =
      let d = cut_code whole s t (Push ∷ (code (bound ∷ s) u ++ Popi 1 ∷ [])) p c in
      let f = cut_code whole (bound ∷ s) u (Popi 1 ∷ []) (p + long t + 1) d.1.1 in
      two t u p b d.1.0 (λ i. stays t s p b d.0 i) (λ i. stays u (bound ∷ s) (p + long t + 1) (b + 1) f.0 i)
      (λ i.
      let g = does (Popi 1) (p + long t + 1 + long u) (b + 1) f.1.0 i in
      let m = g.1 in
      record { place = g.0; high = omega arith }) e

-- where the words end there is none
past : (t : Tree) (q h r j : ℕ) → Spot (0 + long t) 8 q h → Leads (translation t) q h r j → ⊥
past t q h r j e go =
    let l = length-code field_slots t in
    let n : slice_get (translation t) q ≡ None = slice_get_past (translation t) q (omega arith) in
    let g = go.there in
    let z : ◌≡◌ {A = ℕ} 0 1 = cc in
    omega arith

-- every place that is reached is one of the rule's, or its end
pub reached : (t : Tree) {q h : ℕ} → Walks (translation t) 0 8 q h → Inside t 0 8 q h ⊎ Spot (0 + long t) 8 q h
reached t here = inl (begins t 0 8 0 8 (record { place = refl; high = refl }))
reached t (more {q} {k} {r} {j} w go) = on (reached t w)
  where
    on : Inside t 0 8 q k ⊎ Spot (0 + long t) 8 q k → Inside t 0 8 r j ⊎ Spot (0 + long t) 8 r j
    on (inl i) = (stays (translation t) q k r j go t field_slots 0 8 (lies (translation t)) i).1
    on (inr e) = absurd (past t q k r j e go)

pub keeps : KeepsHeight
keeps t q h w = kept (reached t w)
  where
    kept : Inside t 0 8 q h ⊎ Spot (0 + long t) 8 q h → Kept t q h
    kept (inl i) =
        let e = between t 0 8 q h i in
        record { within = omega arith; low = omega arith; high = omega arith; ends = λ f. absurd (omega arith) }
    kept (inr e) = record { within = omega arith; low = omega arith; high = omega arith; ends = λ f. omega arith }

pub ahead : GoesAhead
ahead t q h r k w go = on (reached t w)
  where
    on : Inside t 0 8 q h ⊎ Spot (0 + long t) 8 q h → q < r
    on (inl i) = (stays (translation t) q h r k go t field_slots 0 8 (lies (translation t)) i).0
    on (inr e) = absurd (past t q h r k e go)

counted : (t : Tree) {q h : ℕ} (w : Walks (translation t) 0 8 q h) → steps w ≤ q
counted t here = omega arith
counted t (more {q} {k} {r} {j} w go) =
    let e = counted t w in
    let f = ahead t q k r j w go in
    omega arith

pub brief : IsBrief
brief t q h w =
    let e = counted t w in
    let f = keeps t q h w in
    omega arith
