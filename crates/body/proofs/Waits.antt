-- Reading the lines behind line 1: what each step wants of the buffer, and where the numbers of each block begin.
-- Assumes nothing.
use Rattle.std.proofs.Common.{◌≡◌, refl, ◌∙◌, List, [], ◌∷◌, ◌++◌, ℕ, ◌+◌, ◌*◌, ◌≤◌, ◌<◌, arith, ℤ, length}
use Rattle.job.specs.declared.Kind.{Kind}
use Rattle.job.specs.declared.Kind.TheVariants.{System, Basis, Equation}
use Rattle.job.specs.Job.{lengths_of, read_count}
use Rattle.text.specs.Lines.{Form, total}
use Rattle.text.proofs.Lines.{total-append}
use Rattle.cursor.specs.declared.Cursor.{Cursor}
use Rattle.lines.specs.declared.Numbers.{Numbers}
use Rattle.lines.specs.Forms.{row_forms, matrix_forms}
use Rattle.lines.specs.Steps.{form_of, Placed, Ready}
use Rattle.lines.proofs.Forms.{total-rows, total-matrix}
use Rattle.body.specs.declared.Lengths.{Lengths}
use Rattle.body.specs.JobLines.{read_lengths}
use Rattle.body.specs.Parts.{Waiting}
use Rattle.body.proofs.Sizes.{Fits, lengths_fit}

module _ {kind : Kind} {r : ℕ} {x y : Numbers} {l : Lengths} {s : List ℕ} {c : Cursor} {w : List ℤ}
    (q : Waiting kind r x y l s c w) where
  pub fits : Fits l
  fits = lengths_fit kind r q.terms l q.small q.measured

  -- a buffer as long as the first has room for all numbers
  pub series_ready : {d : Cursor} {v : List ℤ} (i : ℕ) → Placed s d → length v ≡ length w
      → i ≤ l.one + l.two + l.three → Ready s d x i v
  series_ready i p e h = record {
    placed = p;
    low = q.ranges.0;
    high = q.ranges.1;
    room = omega (arith, q.room, fits.all);
  }

  pub values_ready : {d : Cursor} {v : List ℤ} (i : ℕ) → Placed s d → length v ≡ length w
      → i ≤ l.one + l.two + l.three → Ready s d y i v
  values_ready i p e h = record {
    placed = p;
    low = q.ranges.2;
    high = q.ranges.3;
    room = omega (arith, q.room, fits.all);
  }

  -- what reading the entries of A wants
  pub entries_asked : l.one ≡ r * (r * x.count)
      → Ready s c x (0 + r * (r * x.count)) w × (c.field ≡ 0) × (0 < r) × (r < 10) × (r < 10)
  entries_asked e =
      let m = q.small in
      let ready = series_ready (0 + r * (r * x.count)) q.placed refl (omega arith) in
      (ready, q.field, m.order_least, omega (arith, m.order), omega (arith, m.order))

-- the blocks of lines of each kind
abbrev pub entries : Numbers → ℕ → List Form
entries x r = matrix_forms (form_of x) (65 ∷ []) r 1 r

abbrev pub rows : Numbers → List ℕ → ℕ → ℕ → List Form
rows x head i k = row_forms (form_of x) head i k

-- the first two blocks of a system's lines, and of an equation's
abbrev pub entries_rows : Numbers → ℕ → List Form
entries_rows x r = entries x r ++ rows x (98 ∷ []) 1 r

abbrev pub rows_right : Numbers → ℕ → List Form
rows_right x r = rows x (97 ∷ []) 0 (r + 1) ++ (form_of x (98 ∷ []) ∷ [])

total-entries : (x : Numbers) (r : ℕ) → total (entries x r) ≡ r * (r * x.count)
total-entries x r = total-matrix x.count x.low x.high (65 ∷ []) r 1 r

total-lines : (x : Numbers) (head : List ℕ) (i k : ℕ) → total (rows x head i k) ≡ k * x.count
total-lines x head i k = total-rows x.count x.low x.high head i k

-- where the numbers of each block begin: of a system's
module _ {r : ℕ} {x y : Numbers} {l : Lengths} {s : List ℕ} {c : Cursor} {w : List ℤ} (q : Waiting System r x y l s c w)
  where
    pub system-one : l.one ≡ r * (r * x.count)
    unfolding read_lengths read_count lengths_of
    system-one = q.measured.one ∙ rw q.coefficients (omega arith)

    pub system_two : l.two ≡ r * x.count
    unfolding read_lengths read_count lengths_of
    system_two = q.measured.two ∙ rw q.coefficients (omega arith)

    pub system_three : l.three ≡ y.count
    unfolding read_lengths read_count lengths_of
    system_three = omega (arith, q.measured.three, q.width)

    pub system-rows : total (entries x r) ≡ l.one
    system-rows = omega (arith, total-entries x r, system-one)

    pub system_last : total (entries_rows x r) ≡ l.one + l.two
    system_last =
        omega (
          arith,
          total-append (entries x r) (rows x (98 ∷ []) 1 r),
          total-entries x r,
          total-lines x (98 ∷ []) 1 r,
          system-one,
          system_two,
        )

-- of a basis
module _ {r : ℕ} {x y : Numbers} {l : Lengths} {s : List ℕ} {c : Cursor} {w : List ℤ} (q : Waiting Basis r x y l s c w)
  where
    pub basis-one : l.one ≡ r * (r * x.count)
    unfolding read_lengths read_count lengths_of
    basis-one = q.measured.one ∙ rw q.coefficients (omega arith)

    pub basis_two : l.two ≡ r * y.count
    unfolding read_lengths read_count lengths_of
    basis_two = q.measured.two ∙ rw q.width (omega arith)

    pub basis-rows : total (entries x r) ≡ l.one
    basis-rows = omega (arith, total-entries x r, basis-one)

-- of an equation
module _ {r : ℕ} {x y : Numbers} {l : Lengths} {s : List ℕ} {c : Cursor} {w : List ℤ}
    (q : Waiting Equation r x y l s c w) where
  pub equation-one : l.one ≡ (r + 1) * x.count
  unfolding read_lengths read_count lengths_of
  equation-one = q.measured.one ∙ rw q.coefficients (omega arith)

  pub equation_two : l.two ≡ x.count
  unfolding read_lengths read_count lengths_of
  equation_two = omega (arith, q.measured.two, q.coefficients)

  pub equation_three : l.three ≡ y.count
  unfolding read_lengths read_count lengths_of
  equation_three = omega (arith, q.measured.three, q.width)

  pub equation_right : total (rows x (97 ∷ []) 0 (r + 1)) ≡ l.one
  equation_right = omega (arith, total-lines x (97 ∷ []) 0 (r + 1), equation-one)

  pub equation_last : total (rows_right x r) ≡ l.one + l.two
  unfolding total
  equation_last =
      omega (
        arith,
        total-append (rows x (97 ∷ []) 0 (r + 1)) (form_of x (98 ∷ []) ∷ []),
        total-lines x (97 ∷ []) 0 (r + 1),
        equation-one,
        equation_two,
      )
