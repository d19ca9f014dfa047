-- How many bytes at the start of a text pass a test.
use Rattle.std.specs.Prelude.{◌≡◌, ℕ, Bool, List}
use Rattle.language.specs.Tokens.{run_of}

-- n bytes at the start pass, under each test that the calls of a closure answer
abbrev pub CountsRun : (ℕ → Bool → Type 0) → List ℕ → ℕ → Type 0
CountsRun post bs n = (test : ℕ → Bool) → ((b : ℕ) (r : Bool) → post b r → r ≡ test b) → n ≡ run_of test bs
