-- The tokens of a printed tree have that tree, but for the places.
use Rattle.std.proofs.Common.{◌≡◌, ℕ, zero, suc, ◌+◌, ◌≤◌, min, Bool, true, false, List, [], ◌∷◌, ◌++◌, length, codes, sym, refl, ap, ◌∙◌, arith}
use Rattle.std.specs.List.{AllByRecursion}
use Rattle.language.specs.Reading.{reading}
use Rattle.language.specs.Tree.{Tree, number, truth, name, prefix, binary, choose, bind, size, flatten}
use Rattle.language.specs.declared.operator.Operator.{Operator}
use Rattle.language.specs.declared.operator.Operator.TheVariants.{Equal}
use Rattle.language.specs.declared.token.TokenKind.TheVariants.{If, Then, Else, Let, In, Open, Close, Name}
use Rattle.grammar.specs.Grammar.{Derives, level, left_level, Bound, constant, truth_value, named, parens, prefixed, join, if_else, let_in}
use Rattle.grammar.specs.Laws.{Means}
use Rattle.grammar.proofs.Frames.{levels}
use Rattle.grammar.proofs.Opened.{lower}
use Rattle.grammar.proofs.Texts.{reading_complete}
use Rattle.grammar.proofs.Trees.{faithful}
use Rattle.printing.specs.Printing.{let_name, lets, name_at, number_word, truth_word, prefix_word, operator_word, leaf, enclosed, words, printed, around, nested, Small, unplaced, ReadsBack, Distinct}
use Rattle.printing.proofs.Lexing.{Good, good_append, lex, lexed, reach, lexed_append, finish, line_lexes}
use Rattle.printing.proofs.Words.{Reads, fixed, reads_truth, reads_prefix, reads_operator, reads_let_name, reads_number, named as named_so}

-- words that have the tree t at the level l, under k lets, from the place p on
record Made (l k d p : ℕ) (ws : List (List ℕ)) (t : Tree) : Type 0 where
  tree : Tree
  same : unplaced tree ≡ unplaced t
  good : AllByRecursion Good ws
  derived : Derives l (lets k) d (lexed p ws) tree

-- the level at which a leaf is derived, and that of another tree
abbrev top : Bool → ℕ
top true = 6
top false = 0

-- as an operand: in parentheses unless it is a leaf
wrapped : (b : Bool) (k d p n : ℕ) (ws : List (List ℕ)) (t : Tree) → around b n ≤ d → ((e q : ℕ) → n ≤ e → e ≤ d → Made (top b) k e q ws t) → Made 6 k d p (enclosed b ws) t
wrapped true k d p n ws t h f = f d p h (omega arith)
wrapped false k zero p n ws t h f = absurd (omega arith)
wrapped false k (suc d) p n ws t h f =
    let m = f d (p + 1 + 1) (omega arith) (omega arith) in
    record {
      tree = m.tree;
      same = m.same;
      good = ((fixed _ _ Open (λ rest. refl)).good, good_append ws (codes ")" ∷ []) m.good ((fixed _ _ Close (λ rest. refl)).good, tt));
      derived = rw lexed_append (parens (lex p (codes "(")) (lex (reach (p + 1 + 1) ws) (codes ")")) refl m.derived refl);
    }

-- two operands of an operator
combined : {k d p r : ℕ} {ws vs : List (List ℕ)} {t u : Tree} (o : Operator) → Made 6 k d p ws t → Made 6 k d (reach p ws + length (operator_word o) + 1) vs u →
    Made 0 k d p (ws ++ operator_word o ∷ vs) (binary o r t u)
combined {p = p} {ws = ws} {vs} o m w =
    let x : ℕ = reach p ws in
    record {
      tree = binary o x m.tree w.tree;
      same = cc (m.same, w.same);
      good = good_append ws (operator_word o ∷ vs) m.good ((reads_operator o).good, w.good);
      derived =
          rw lexed_append
          (lower (level o) 0 (omega arith)
          (join (lex x (operator_word o)) o (lower 6 (left_level o) (omega (arith, levels o)) m.derived) (reads_operator o).kind (lower 6 (suc (level o)) (omega (arith, levels o)) w.derived)));
    }

-- an if of three operands
chosen : {k d p r : ℕ} {ws vs us : List (List ℕ)} {t u v : Tree} → Made 6 k d (p + 2 + 1) ws t → Made 6 k d (reach (p + 2 + 1) ws + 4 + 1) vs u →
    Made 6 k d (reach (reach (p + 2 + 1) ws + 4 + 1) vs + 4 + 1) us v →
    Made 0 k (suc d) p (codes "if" ∷ (ws ++ codes "then" ∷ (vs ++ codes "else" ∷ us))) (choose r t u v)
chosen {p = p} {ws = ws} {vs} {us} m w z =
    let x : ℕ = reach (p + 2 + 1) ws in
    let y : ℕ = reach (x + 4 + 1) vs in
    record {
      tree = choose p m.tree w.tree z.tree;
      same = cc (m.same, w.same, z.same);
      good = (
        (fixed _ _ If (λ rest. refl)).good,
        good_append ws (codes "then" ∷ (vs ++ codes "else" ∷ us)) m.good ((fixed _ _ Then (λ rest. refl)).good, good_append vs (codes "else" ∷ us) w.good ((fixed _ _ Else (λ rest. refl)).good, z.good)),
      );
      derived =
          simp lexed_append
          (if_else (lex p (codes "if")) (lex x (codes "then")) (lex y (codes "else")) refl (lower 6 0 (omega arith) m.derived) refl (lower 6 0 (omega arith) w.derived) refl (lower 6 0 (omega arith) z.derived));
    }

-- a let of two operands
bound : {k d p r : ℕ} {ws vs : List (List ℕ)} {t u : Tree} → Reads (let_name k) Name → Made 6 k d (p + 3 + 1 + length (let_name k) + 1 + 1 + 1) ws t →
    Made 6 (suc k) d (reach (p + 3 + 1 + length (let_name k) + 1 + 1 + 1) ws + 2 + 1) vs u →
    Made 0 k (suc d) p (codes "let" ∷ let_name k ∷ codes "=" ∷ (ws ++ codes "in" ∷ vs)) (bind r t u)
bound {k} {p = p} {ws = ws} {vs} g m w =
    let a : ℕ = p + 3 + 1 in
    let c : ℕ = a + length (let_name k) + 1 in
    let y : ℕ = reach (c + 1 + 1) ws in
    record {
      tree = bind p m.tree w.tree;
      same = cc (m.same, w.same);
      good = (
        (fixed _ _ Let (λ rest. refl)).good,
        (g.good, ((reads_operator Equal).good, good_append ws (codes "in" ∷ vs) m.good ((fixed _ _ In (λ rest. refl)).good, w.good))),
      );
      derived =
          rw lexed_append
          (let_in (lex p (codes "let")) (lex a (let_name k)) (lex c (codes "=")) (lex y (codes "in")) refl g.kind refl (lower 6 0 (omega arith) m.derived) refl (lower 6 0 (omega arith) w.derived));
    }

-- the words of each tree
made : (t : Tree) (n k d p : ℕ) → n ≡ k + 8 → Bound n t → Small t → nested t ≤ d → k + d ≤ 64 → Made (top (leaf t)) k d p (words k t) t
made (number a r) n k d p e b s h l =
    let g = reads_number a s in
    record { tree = number a p; same = refl; good = (g.good, tt); derived = constant (lex p (number_word a)) g.kind }
made (truth v r) n k d p e b s h l =
    record { tree = truth v p; same = refl; good = ((reads_truth v).good, tt); derived = truth_value (lex p (truth_word v)) (reads_truth v).kind }
made (name i r) n k d p e b s h l =
    let g = named_so k i (omega arith) (omega arith) in
    record { tree = name i p; same = refl; good = (g.word.good, tt); derived = named (lex p (name_at k i)) g.word.kind g.place }
made (prefix o r t) n k zero p e b s h l = absurd (omega arith)
made (prefix o r t) n k (suc d) p e b s h l =
    let m = wrapped (leaf t) k d (p + length (prefix_word o) + 1) (nested t) (words k t) t (omega arith) (λ c q f i. made t n k c q e b s f (omega arith)) in
    record {
      tree = prefix o p m.tree;
      same = ap (prefix o 0) m.same;
      good = ((reads_prefix o).good, m.good);
      derived = lower 6 0 (omega arith) (prefixed (lex p (prefix_word o)) o (reads_prefix o).kind m.derived);
    }
made (binary o r t u) n k d p e b s h l =
    combined o (wrapped (leaf t) k d _ (nested t) (words k t) t (omega arith) (λ c q f i. made t n k c q e b.0 s.0 f (omega arith)))
    (wrapped (leaf u) k d _ (nested u) (words k u) u (omega arith) (λ c q f i. made u n k c q e b.1 s.1 f (omega arith)))
made (choose r t u v) n k zero p e b s h l = absurd (omega arith)
made (choose r t u v) n k (suc d) p e b s h l =
    chosen (wrapped (leaf t) k d _ (nested t) (words k t) t (omega arith) (λ c q f i. made t n k c q e b.0 s.0 f (omega arith)))
    (wrapped (leaf u) k d _ (nested u) (words k u) u (omega arith) (λ c q f i. made u n k c q e b.1.0 s.1.0 f (omega arith)))
    (wrapped (leaf v) k d _ (nested v) (words k v) v (omega arith) (λ c q f i. made v n k c q e b.1.1 s.1.1 f (omega arith)))
made (bind r t u) n k zero p e b s h l = absurd (omega arith)
made (bind r t u) n k (suc d) p e b s h l =
    bound (reads_let_name k (omega arith)) (wrapped (leaf t) k d _ (nested t) (words k t) t (omega arith) (λ c q f i. made t n k c q e b.0 s.0 f (omega arith)))
    (wrapped (leaf u) (suc k) d _ (nested u) (words (suc k) u) u (omega arith) (λ c q f i. made u (n + 1) (suc k) c q (omega arith) b.1 s.1 f (omega arith)))

size_unplaced : (t : Tree) → size (unplaced t) ≡ size t
size_unplaced (number a p) = refl
size_unplaced (truth b p) = refl
size_unplaced (name i p) = refl
size_unplaced (prefix o p t) = simp (size_unplaced t)
size_unplaced (binary o p t u) = simp (size_unplaced t, size_unplaced u)
size_unplaced (choose p t u v) = simp (size_unplaced t, size_unplaced u, size_unplaced v)
size_unplaced (bind p t u) = simp (size_unplaced t, size_unplaced u)

pub reads_back : ReadsBack
reads_back room t h =
    let m = made t 8 0 64 0 refl h.bound h.small h.shallow (omega arith) in
    let means : Means (printed t) m.tree =
    record {
      rule = lexed 0 (words 0 t);
      end = finish (reach 0 (words 0 t));
      all = line_lexes (words 0 t) m.good;
      ends = refl;
      derived = lower (top (leaf t)) 0 (omega arith) m.derived;
    } in
    let f : size m.tree ≡ size t = sym (size_unplaced m.tree) ∙ (ap size m.same ∙ size_unplaced t) in
    let n : size m.tree ≤ min room 512 = omega (arith, h.fits) in
    record { tree = m.tree; same = m.same; read = reading_complete room (printed t) m.tree means h.short n }

pub distinct : Distinct
distinct room t u h g e =
    let a = reads_back room t h in
    let b = reads_back room u g in
    let f = a.read in
    let j = b.read in
    let i = ap (reading room) e in
    let same : flatten a.tree ≡ flatten b.tree = cc in
    sym a.same ∙ (ap unplaced (faithful a.tree b.tree same) ∙ b.same)
