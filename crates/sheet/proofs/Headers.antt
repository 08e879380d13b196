-- Line 1 of a sheet decides its header: the word the kind, by its first byte, and the fields behind it the numbers.
-- Assumes nothing.
use Rattle.std.proofs.Common.{
  ◌≡◌,
  refl,
  sym,
  ap,
  subst,
  ◌∙◌,
  List,
  [],
  ◌∷◌,
  ◌++◌,
  append_assoc,
  ℕ,
  ◌+◌,
  arith,
  ℤ,
  length,
  get_or,
  get_or-append-add,
}
use Rattle.job.specs.declared.Kind.{Kind}
use Rattle.job.specs.declared.Kind.TheVariants.{System, Basis, Equation}
use Rattle.text.specs.Lines.{Form, lines, Begins}
use Rattle.text.proofs.Lines.{begins_as}
use Rattle.job.specs.declared.Header.{Header}
use Rattle.header.specs.Header.{header, word_of, header_form}
use Rattle.header.proofs.Headers.{lead_same}
use Rattle.sheet.specs.Sheet.{Keeps}
use Rattle.sheet.specs.Parts.{Led}

-- the first bytes of the words
initial : Kind → ℕ
initial System = 115
initial Basis = 98
initial Equation = 101

initial_of : (k : Kind) (t : List ℕ) → get_or (word_of k ++ t) 0 0 ≡ initial k
unfolding word_of initial
initial_of System t = refl
initial_of Basis t = refl
initial_of Equation t = refl

initial_same : (k l : Kind) → initial k ≡ initial l → k ≡ l
unfolding initial
initial_same System System e = refl
initial_same System Basis e = absurd (omega arith)
initial_same System Equation e = absurd (omega arith)
initial_same Basis System e = absurd (omega arith)
initial_same Basis Basis e = refl
initial_same Basis Equation e = absurd (omega arith)
initial_same Equation System e = absurd (omega arith)
initial_same Equation Basis e = absurd (omega arith)
initial_same Equation Equation e = refl

-- sheets whose line 1 begins with some fields and then the word of the kind
module _ (before : List ℕ) where
  -- the byte behind those fields is the word's first
  word_of_lem
      : (k : Kind) (h : Header) {s t : List ℕ} {z : ℕ → ℤ} → Begins s (header_form (before ++ word_of k) h ∷ []) z 0 t
      → get_or s (length before + 0) 0 ≡ initial k
  unfolding lines
  word_of_lem k h {s} b =
      let text = simp append_assoc at b.text in
      ap (λ (u : List ℕ). get_or u (length before + 0) 0) text ∙ get_or-append-add before _ 0 0 ∙ initial_of k _

  module _ {forms : Header → List Form} (led : Led forms (λ kind. before ++ word_of kind)) where
    -- line 1 decides the header
    pub one-header : (s : List ℕ) (g h : Header) → Keeps forms s g 1 → Keeps forms s h 1 → g ≡ h
    one-header s g h a b =
        let first = begins_as (led.first g) a.begins in
        let second = begins_as (led.first h) b.begins in
        let kind : g.kind ≡ h.kind =
        initial_same g.kind h.kind (sym (word_of_lem g.kind g first) ∙ word_of_lem h.kind h second) in
        let as-second =
        subst (λ (k : Kind). Begins s (header_form (before ++ word_of k) g ∷ []) a.numbers 0 a.rest) kind first in
        let same = lead_same (before ++ word_of h.kind) a.short b.short as-second second in
        let whole : header g.kind g.r g.n g.p ≡ header h.kind h.r h.n h.p =
        rw (kind, same.0, same.1, same.2) in
        whole
