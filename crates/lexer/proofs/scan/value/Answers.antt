use Rattle.std.proofs.Common.{◌≡◌, ℕ, ◌+◌, ◌-◌, ◌*◌, List, [], ◌∷◌, fold, refl, rules}
use Rattle.language.specs.Tokens.{value_from}
use Rattle.lexer.proofs.scan.value.Goals as goal

value_from-fold : (n : ℕ) (ds : List ℕ) → value_from n ds ≡ fold (λ n d. n * 10 + (d - 48)) n ds
value_from-fold n [] = refl
value_from-fold n (d ∷ ds) = value_from-fold (n * 10 + (d - 48)) ds

pub returns : goal.returns
returns c = rw (value_from-fold 0 c.args.digits.now) (search rules)
