-- The turns of the loops that print: what stands so far, and one piece more.
-- Assumes nothing.
use Rattle.std.proofs.Common.{
  ◌≡◌,
  List,
  [],
  ◌∷◌,
  ◌++◌,
  ℕ,
  ◌+◌,
  ◌-◌,
  ◌*◌,
  ◌<◌,
  ◌≤◌,
  ◌^◌,
  arith,
  add-one,
  suc,
  take,
  set,
  get_or,
  take-suc,
  take_all,
  length,
  suc-mul,
}
use Rattle.text.specs.Decimal.{digits, spell}
use Rattle.text.specs.Lines.{items, line, lines}
use Rattle.text.specs.Put.{Put}
use Rattle.text.proofs.Lines.{items_snoc}
use Rattle.text.proofs.Puts.{put_none, put_one, put_more, put_as}
use Rattle.lines.proofs.Forms.{word_digit}
use Rattle.lines.specs.Forms.{numbered, row_forms, matrix_forms}
use Rattle.result.specs.ResultSheet.{balanced_form}
use Rattle.result.specs.Print.{number_at, Ready, line_room}
use Rattle.std.specs.List.{slice_range}
use Rattle.lines.proofs.Forms.{total-rows}
use Rattle.text.specs.Lines.{total}
use Rattle.result.proofs.Shift.{Same, items-shift, lines-shift, part_length, part_same, part_below}
use Rattle.result.proofs.Products.{stride}
use Rattle.result.proofs.Forms.{rows_more, matrix_more}
use Rattle.result.proofs.Room.{digits_room, items_room, rows_room, matrix_room}

-- the first i bytes of h
pub record BytesPut (h : List ℕ) (at : ℕ) (d₀ d : List ℕ) (i : ℕ) : Type 0 where
  pub within : i ≤ length h
  pub put : Put at (take i h) d₀ d (at + i)

pub bytes_none : {h : List ℕ} {at : ℕ} {d₀ : List ℕ} → at + length h ≤ length d₀ → BytesPut h at d₀ d₀ 0
bytes_none {at = at} {d₀ = d₀} room =
    let e : at + 0 ≡ at = omega arith in
    record { within = omega arith; put = rw e (put_none at d₀ (omega arith)) }

module _ {h : List ℕ} {at : ℕ} {d₀ d : List ℕ} {i : ℕ} (so_far : BytesPut h at d₀ d i) where
  pub bytes_room : at + length h ≤ length d₀ → i < length h → at + i < length d
  bytes_room room more = omega (arith, so_far.put.long)

  pub bytes_next
      : at + length h ≤ length d₀ → i < length h → BytesPut h at d₀ (set d (at + i) (get_or h i 0)) (i + 1)
  bytes_next room more =
      let e : at + suc i ≡ at + i + 1 = omega arith in
      let one = put_one (at + i) (get_or h i 0) d (bytes_room room more) in
      record { within = omega arith; put = rw (add-one i, take-suc h i 0 more, e) (put_more so_far.put one) }

  pub bytes_all : length h ≤ i → Put at h d₀ d (at + i)
  bytes_all all = put_as (take_all i h all) so_far.put

-- the numbers of the first k words of s
pub record NumbersPut (p : ℕ) (s : List ℕ) (at : ℕ) (d₀ d : List ℕ) (e k : ℕ) : Type 0 where
  pub within : k ≤ length s
  pub put : Put at (items (number_at p s) 0 k) d₀ d e

module _ {p : ℕ} {s : List ℕ} {d₀ : List ℕ} {at : ℕ} (ready : Ready p s d₀ at (22 * length s + 1)) where
  pub numbers-none : NumbersPut p s at d₀ d₀ at 0
  unfolding items
  numbers-none = record { within = omega arith; put = put_none at d₀ (omega (arith, ready.room)) }

  module _ {d : List ℕ} {e k : ℕ} (so_far : NumbersPut p s at d₀ d e k) where
    -- room for the numbers that are left, and for the line feed
    pub numbers_room : p < 2 ^ 64 → e + 22 * (length s - k) + 1 ≤ length d
    numbers_room small =
        let put = so_far.put in
        let short = items_room p small s ready.below 0 k in
        omega (arith, so_far.within, put.end, put.long, short, ready.room)

    pub numbers_next
        : {d' : List ℕ} {e' : ℕ} → k < length s → Put e (9 ∷ spell (number_at p s k)) d d' e'
        → NumbersPut p s at d₀ d' e' (k + 1)
    numbers_next more one =
        let q : k ≡ 0 + k = omega arith in
        record {
          within = omega arith;
          put = rw (add-one k, items_snoc (number_at p s) 0 k) (put_more so_far.put (rw q at one));
        }

    pub numbers_all
        : {d' : List ℕ} {e' : ℕ} → length s ≤ k → Put e (10 ∷ []) d d' e'
        → Put at (items (number_at p s) 0 (length s) ++ (10 ∷ [])) d₀ d' e'
    numbers_all all feed =
        let e : length s ≡ k = omega (arith, so_far.within) in
        rw e (put_more so_far.put feed)

-- where a text ends that is not too long
pub put_within : {at : ℕ} {t d d' : List ℕ} {e n : ℕ} → Put at t d d' e → length t ≤ n → e ≤ at + n
put_within put short = omega (arith, put.end)

-- the same words, to be printed at an earlier place
pub ready_earlier
    : {p : ℕ} {s d : List ℕ} {at bytes : ℕ} → Ready p s d at bytes
    → {a : ℕ} {d' : List ℕ} → a ≤ at → length d' ≡ length d → Ready p s d' a bytes
ready_earlier ready less same = record { below = ready.below; room = omega (arith, ready.room) }

-- the numbers of a line, behind its head and its row number
pub row_ready
    : {p : ℕ} {s h d₀ d d' : List ℕ} {at a b i : ℕ} → Ready p s d₀ at (line_room (length h) (length s)) → i < 2 ^ 64
    → Put at h d₀ d a → Put a (9 ∷ digits i) d d' b → Ready p s d' b (22 * length s + 1)
row_ready {i = i} ready small head field = record {
  below = ready.below;
  room =
      omega (arith, ready.room, head.end, head.long, field.end, field.long, digits_room i small);
}

-- the lines of the first i rows
pub record RowsPut (p : ℕ) (s : List ℕ) (count rows : ℕ) (h : List ℕ) (at : ℕ) (d₀ d : List ℕ) (e i : ℕ)
    : Type 0 where
  pub put : Put at (lines (row_forms (balanced_form p count) h 1 i) (number_at p s) 0) d₀ d e

module _ {p : ℕ} {s : List ℕ} {rows count : ℕ} {h d₀ : List ℕ} {at : ℕ} (exact : length s ≡ rows * count)
    (ready : Ready p s d₀ at (rows * line_room (length h) count)) where
  pub rows_none : RowsPut p s count rows h at d₀ d₀ at 0
  unfolding lines row_forms
  rows_none = record { put = put_none at d₀ (omega (arith, ready.room)) }

  module _ {d : List ℕ} {e i : ℕ} (so_far : RowsPut p s count rows h at d₀ d e i) where
    -- the words of the next row
    rows_end : (i + 1) * count ≡ i * count + count
    rows_end = rw (add-one, suc-mul) (omega arith)

    rows_within : i < rows → (i + 1) * count ≤ length s
    rows_within more = omega (arith, stride count more, rows_end)

    abbrev row : List ℕ
    row = slice_range s (i * count) ((i + 1) * count)

    pub rows_ready
        : i < rows → p < 2 ^ 64 → rows < 2 ^ 64 → Ready p row d e (line_room (length h) (length row))
    rows_ready more small few =
        let put = so_far.put in
        let short = rows_room p small s ready.below count h 1 i (omega arith) 0 in
        rw (part_length s _ _ count rows_end (rows_within more))
        (record {
          below = part_below s _ _ count rows_end (rows_within more) ready.below;
          room = omega (arith, stride (line_room (length h) count) more, put.end, put.long, short, ready.room);
        })

    pub rows_next
        : {d' : List ℕ} {e' : ℕ} → i < rows
        → Put e (line (balanced_form p (length row) (numbered h (i + 1))) (number_at p row) 0) d d' e'
        → RowsPut p s count rows h at d₀ d' e' (i + 1)
    rows_next more one =
        let e : i + 1 ≡ 1 + i = omega arith in
        let z : i * count ≡ 0 + i * count = omega arith in
        let long = part_length s _ _ count rows_end (rows_within more) in
        let moved = items-shift count (part_same s _ _ count rows_end (rows_within more) p) in
        let next = put_more so_far.put (rw (e, z) at (rw moved at (rw long at one))) in
        record { put = rw add-one (put_as (rows_more count _ _ (number_at p s) 0 h 1 i) next) }

-- the lines of the first i rows of a matrix
pub record MatrixPut (p : ℕ) (s : List ℕ) (count order word at : ℕ) (d₀ d : List ℕ) (e i : ℕ) : Type 0 where
  pub put : Put at (lines (matrix_forms (balanced_form p count) (word ∷ []) order 1 i) (number_at p s) 0) d₀ d e

module _ {p : ℕ} {s : List ℕ} {order count : ℕ} {d₀ : List ℕ} {at : ℕ} (small : order ≤ 8)
    (exact : length s ≡ order * (order * count))
    (ready : Ready p s d₀ at (order * (order * line_room 3 count))) where
  pub matrix-none : (word : ℕ) → MatrixPut p s count order word at d₀ d₀ at 0
  unfolding lines matrix_forms
  matrix-none word = record { put = put_none at d₀ (omega (arith, ready.room)) }

  module _ {word : ℕ} {d : List ℕ} {e i : ℕ} (so_far : MatrixPut p s count order word at d₀ d e i) where
    matrix_end : (i + 1) * (order * count) ≡ i * (order * count) + order * count
    matrix_end = rw (add-one, suc-mul) (omega arith)

    matrix_within : i < order → (i + 1) * (order * count) ≤ length s
    matrix_within more = omega (arith, stride (order * count) more, matrix_end)

    abbrev rows_of : List ℕ
    rows_of = slice_range s (i * (order * count)) ((i + 1) * (order * count))

    -- the next row
    pub matrix_ready
        : i < order → p < 2 ^ 64
        → (length rows_of ≡ order * count) × Ready p rows_of d e (order * line_room 3 count)
    matrix_ready more below =
        let put = so_far.put in
        let short = matrix_room p below s ready.below count word order 1 i small (omega arith) 0 in (
          part_length s _ _ (order * count) matrix_end (matrix_within more),
          record {
            below = part_below s _ _ (order * count) matrix_end (matrix_within more) ready.below;
            room = omega (arith, stride (order * line_room 3 count) more, put.end, put.long, short, ready.room);
          },
        )

    pub matrix_next
        : {d' : List ℕ} {e' : ℕ} → i < order
        → let row = row_forms (balanced_form p count) (word ∷ 9 ∷ (49 + i) ∷ []) 1 order in
        Put e (lines row (number_at p rows_of) 0) d d' e'
        → MatrixPut p s count order word at d₀ d' e' (i + 1)
    matrix_next more rows =
        let form = balanced_form p count in
        let head = word ∷ 9 ∷ (49 + i) ∷ [] in
        let z : i * (order * count) ≡ 0 + i * (order * count) = omega arith in
        let all : total (row_forms form head 1 order) ≡ order * count = total-rows count _ _ head 1 order in
        let same = part_same s _ _ (order * count) matrix_end (matrix_within more) p in
        let fs = row_forms form head 1 order in
        let wide : Same (number_at p rows_of) 0 (number_at p s) (i * (order * count)) (total fs) =
        record { at = λ j h. same.at j (omega arith) } in
        let moved = lines-shift (row_forms form head 1 order) wide in
        let next = put_more so_far.put (rw (word_digit word i (omega arith), z) at (rw moved at rows)) in
        record { put = rw add-one (put_as (matrix_more count _ _ (number_at p s) 0 (word ∷ []) order 1 i) next) }
