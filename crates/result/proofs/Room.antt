-- How many bytes the pieces of a result sheet take at most: 20 for a machine's number, 21 for a residue's, and so on
-- up to the lines of a matrix.
-- Assumes nothing.
use Rattle.std.proofs.Common.{
  ◌≡◌,
  ap,
  Bool,
  true,
  false,
  cond,
  List,
  [],
  ◌∷◌,
  ◌++◌,
  ℕ,
  zero,
  suc,
  ◌+◌,
  ◌-◌,
  ◌*◌,
  ◌<◌,
  ◌≤◌,
  ◌^◌,
  suc-mul,
  arith,
  leb,
  pos,
  neg_ℤ,
  length,
  get_or,
  length-append,
}
use Rattle.job.specs.declared.Kind.{Kind}
use Rattle.job.specs.declared.Kind.TheVariants.{System, Basis, Equation}
use Rattle.text.specs.Decimal.{digits, spell}
use Rattle.text.specs.Class.{balanced}
use Rattle.text.specs.Lines.{items, line, lines, total}
use Rattle.text.specs.Put.{Put}
use Rattle.text.proofs.Digits.{digits-small, digits_short}
use Rattle.text.proofs.Lines.{lines-append}
use Rattle.lines.specs.Forms.{numbered, row_forms, matrix_forms}
use Rattle.header.specs.Header.{header, word_of, header_form}
use Rattle.result.specs.ResultSheet.{balanced_form, result_words}
use Rattle.result.specs.Print.{number_at, line_room}

pub digits_room : (x : ℕ) → x < 2 ^ 64 → length (digits x) ≤ 20
digits_room x h = digits_short x 19 (omega arith)

-- room for a field, and behind it
pub field_room
    : {at x e : ℕ} {before after : List ℕ} (more : ℕ) → x < 2 ^ 64 → at + (21 + more) ≤ length before
    → Put at (9 ∷ digits x) before after e → e + more ≤ length after
field_room {x = x} more small room put = omega (arith, put.end, put.long, digits_room x small)

minus_room : (m : ℕ) → m < 2 ^ 64 → length (spell (neg_ℤ (pos m))) ≤ 21
minus_room zero h = omega (arith, digits_room 0 h)
minus_room (suc m) h = omega (arith, digits_room (suc m) h)

number_room : (c p : ℕ) → c < p → p < 2 ^ 64 → length (spell (balanced c p)) ≤ 21
number_room c p h l = go (leb (2 * c) p)
  where
    go : (b : Bool) → length (spell (cond b (pos c) (neg_ℤ (pos (p - c))))) ≤ 21
    go true = omega (arith, digits_room c (omega arith))
    go false = minus_room (p - c) (omega arith)

-- how line 1 begins
pub lead_room : (kind : Kind) → length (result_words kind) ≤ 15
unfolding word_of
lead_room System = omega arith
lead_room Basis = omega arith
lead_room Equation = omega arith

pub header_room
    : (kind : Kind) (r n p : ℕ) → r < 2 ^ 64 → n < 2 ^ 64 → p < 2 ^ 64
    → length ((header_form (result_words kind) (header kind r n p)).head ++ (10 ∷ [])) ≤ 79
header_room kind r n p a b c =
    let words = result_words kind in
    omega (
      arith,
      length-append (numbered (numbered (numbered words r) n) p) (10 ∷ []),
      length-append (numbered (numbered words r) n) (9 ∷ digits p),
      length-append (numbered words r) (9 ∷ digits n),
      length-append words (9 ∷ digits r),
      lead_room kind,
      digits_room r a,
      digits_room n b,
      digits_room p c,
    )

-- a head of a word and a row number of one digit has 3 bytes
head_room : (word i : ℕ) → i < 10 → length (numbered (word ∷ []) i) ≡ 3
head_room word i h = ap (λ (t : List ℕ). length (word ∷ 9 ∷ t)) (digits-small i h)

-- the numbers of residues, and lines of them
module _ (p : ℕ) (small : p < 2 ^ 64) (s : List ℕ) (below : (k : ℕ) → get_or s k 0 < p) where
  pub items_room : (i n : ℕ) → length (items (number_at p s) i n) ≤ 22 * n
  unfolding items
  items_room i zero = omega arith
  items_room i (suc n) =
      let first = number_room (get_or s i 0) p (below i) small in
      let both = length-append (spell (number_at p s i)) (items (number_at p s) (suc i) n) in
      omega (arith, both, first, items_room (suc i) n)

  module _ (n : ℕ) where
    line_room_lem
        : (head : List ℕ) (i : ℕ) → i < 2 ^ 64 → (from : ℕ)
        → length (line (balanced_form p n (numbered head i)) (number_at p s) from) ≤ line_room (length head) n
    line_room_lem head i h from =
        let numbers = items (number_at p s) from n in
        omega (
          arith,
          length-append (head ++ (9 ∷ digits i)) (numbers ++ (10 ∷ [])),
          length-append head (9 ∷ digits i),
          length-append numbers (10 ∷ []),
          digits_room i h,
          items_room from n,
        )

    pub rows_room
        : (head : List ℕ) (i k : ℕ) → i + k ≤ 2 ^ 64 → (from : ℕ)
        → length (lines (row_forms (balanced_form p n) head i k) (number_at p s) from) ≤ k * line_room (length head) n
    unfolding lines row_forms
    rows_room head i zero h from = omega arith
    rows_room head i (suc k) h from =
        let first = line (balanced_form p n (numbered head i)) (number_at p s) from in
        omega (
          arith,
          length-append first (lines (row_forms (balanced_form p n) head (suc i) k) (number_at p s) (from + n)),
          line_room_lem head i (omega arith) from,
          rows_room head (suc i) k (omega arith) (from + n),
          suc-mul k (line_room (length head) n),
        )

    pub matrix_room
        : (word columns i k : ℕ) → columns ≤ 8 → i + k < 10 → (from : ℕ)
        → length (lines (matrix_forms (balanced_form p n) (word ∷ []) columns i k) (number_at p s) from)
        ≤ k * (columns * line_room 3 n)
    unfolding lines matrix_forms
    matrix_room word columns i zero few h from = omega arith
    matrix_room word columns i (suc k) few h from =
        let head = numbered (word ∷ []) i in
        let row = row_forms (balanced_form p n) head 1 columns in
        let rest = matrix_forms (balanced_form p n) (word ∷ []) columns (suc i) k in
        let first = rows_room head 1 columns (omega arith) from in
        let three = ap (λ (l : ℕ). columns * line_room l n) (head_room word i (omega arith)) in
        let next = from + total row in
        omega (
          arith,
          ap length (lines-append rest (number_at p s) row from),
          length-append (lines row (number_at p s) from) (lines rest (number_at p s) next),
          first,
          three,
          matrix_room word columns (suc i) k few (omega arith) next,
          suc-mul k (columns * line_room 3 n),
        )
