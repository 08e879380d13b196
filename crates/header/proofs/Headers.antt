-- Line 1: the header's numbers are three numbers behind the fields that lead, so the text decides them, and reading
-- three numbers there is reading the header.
-- Assumes nothing.
use Rattle.std.proofs.Common.{Result, Ok, Err, None, ◌≡◌, refl, sym, ap, subst, ◌∙◌, List, [], ◌∷◌, ◌++◌}
use Rattle.std.proofs.Common.{append_assoc, append-nil, ℕ, zero, suc, ◌+◌, ◌<◌, arith, ℤ, pos, drop}
use Rattle.std.specs.Result.{result_ok}
use Rattle.std.proofs.lemmas.Option.{none-some}
use Rattle.job.specs.declared.Kind.{Kind}
use Rattle.text.specs.Decimal.{digits}
use Rattle.text.specs.Lines.{Form, Within, items, lines, total, Ranged, Begins}
use Rattle.text.proofs.Lines.{begins_same}
use Rattle.lines.specs.Forms.{shaped}
use Rattle.cursor.specs.declared.Cursor.{Cursor}
use Rattle.lines.specs.declared.BrokenLine.{BrokenLine}
use Rattle.lines.specs.Steps.{nth, Passed, Read}
use Rattle.lines.proofs.Passes.{broken-one}
use Rattle.job.specs.declared.Header.{Header}
use Rattle.header.specs.Header.{header_form, TenDigits}
use Rattle.header.specs.Opened.{Tens, Named, Opens}

-- the three numbers of a header
pub header_numbers : Header → ℕ → ℤ
header_numbers h zero = pos h.r
header_numbers h (suc zero) = pos h.n
header_numbers h (suc (suc k)) = pos h.p

-- the form of three numbers of at most 10 digits
abbrev pub three_form : List ℕ → Form
three_form = shaped 3 0 9999999999

three_bytes : (lead a b c : List ℕ)
    → (((lead ++ (9 ∷ a)) ++ (9 ∷ b)) ++ (9 ∷ c)) ++ (10 ∷ [])
    ≡ lead ++ ((9 ∷ (a ++ (9 ∷ (b ++ (9 ∷ (c ++ [])))))) ++ (10 ∷ []))
three_bytes lead a b c = simp (append_assoc, append-nil)

three_text : (lead : List ℕ) (h : Header) (y z : ℕ → ℤ) → y 0 ≡ pos h.r → y 1 ≡ pos h.n → y 2 ≡ pos h.p
    → lines (header_form lead h ∷ []) z 0 ≡ lines (three_form lead ∷ []) y 0
unfolding lines items
three_text lead h y z r n p =
    rw (r, n, p) (ap (λ (t : List ℕ). t ++ []) (three_bytes lead (digits h.r) (digits h.n) (digits h.p)))

-- a text with a header has three numbers there
pub three_of : {s t : List ℕ} {lead : List ℕ} {h : Header} {z : ℕ → ℤ} → TenDigits h
    → Begins s (header_form lead h ∷ []) z 0 t → Begins s (three_form lead ∷ []) (header_numbers h) 0 t
unfolding Ranged header_numbers
three_of {s} {t} {lead} {h} {z} d b = record {
  ranged = (
    (λ j l.
        let e : j ≡ 0 + j = omega arith in
        subst (λ (k : ℕ). Within 0 9999999999 (header_numbers h k)) e (small j l)),
    tt,
  );
  text = b.text ∙ ap (λ (u : List ℕ). u ++ t) (three_text lead h (header_numbers h) z refl refl refl);
}
  where
    small : (j : ℕ) → j < 3 → Within 0 9999999999 (header_numbers h j)
    small zero l = d.order
    small (suc zero) l = d.terms
    small (suc (suc j)) l = d.modulus

-- and three numbers there are a header
module _ {s t : List ℕ} {lead : List ℕ} {y : ℕ → ℤ} (b : Begins s (three_form lead ∷ []) y 0 t) (h : Header)
    (r : y 0 ≡ pos h.r) (n : y 1 ≡ pos h.n) (p : y 2 ≡ pos h.p) where
  pub three_digits : TenDigits h
  unfolding Ranged
  three_digits =
      record {
        order = subst (λ (x : ℤ). Within 0 9999999999 x) r (b.ranged.0 0 (omega arith));
        terms = subst (λ (x : ℤ). Within 0 9999999999 x) n (b.ranged.0 1 (omega arith));
        modulus = subst (λ (x : ℤ). Within 0 9999999999 x) p (b.ranged.0 2 (omega arith));
      }

  pub three_header : (z : ℕ → ℤ) → Begins s (header_form lead h ∷ []) z 0 t
  unfolding Ranged
  three_header z = record {
    ranged = ((λ j l. absurd (omega arith)), tt);
    text = b.text ∙ ap (λ (u : List ℕ). u ++ t) (sym (three_text lead h y z r n p));
  }

-- two headers behind the same fields
pub lead_same : (lead : List ℕ) {s a b : List ℕ} {g h : Header} {y z : ℕ → ℤ} → TenDigits g → TenDigits h
    → Begins s (header_form lead g ∷ []) y 0 a → Begins s (header_form lead h ∷ []) z 0 b
    → (g.r ≡ h.r) × (g.n ≡ h.n) × (g.p ≡ h.p)
unfolding header_numbers total
lead_same lead {g = g} {h = h} d e u v =
    let same = (begins_same (three_of {lead = lead} d u) (three_of {lead = lead} e v)).0 in
    let r : pos g.r ≡ pos h.r = same.at 0 (omega arith) in
    let n : pos g.n ≡ pos h.n = same.at 1 (omega arith) in
    let p : pos g.p ≡ pos h.p = same.at 2 (omega arith) in
    (cc, cc, cc)

-- line 1 read as three numbers
module _ {s : List ℕ} {c : Cursor} {lead : List ℕ} {old new : List ℤ} (zero-byte : c.byte ≡ 0) where
  module _ {d : Cursor} (p : Passed s c (three_form lead ∷ []) 0 old new d) where
    from_start : Begins s (three_form lead ∷ []) (nth new) 0 (drop d.byte s)
    from_start =
        subst (λ (k : ℕ). Begins (drop k s) (three_form lead ∷ []) (nth new) 0 (drop d.byte s)) zero-byte p.begins

    pub header_tens : Tens new
    unfolding Ranged
    header_tens = record {
      small = λ k l.
          let e : 0 + k ≡ k = omega arith in
          subst (λ (j : ℕ). Within 0 9999999999 (nth new j)) e (p.begins.ranged.0 k l);
    }

    pub header_opens : c.line ≡ 0 → {kind : Kind} {h : Header} → Named kind new h → Opens lead s h d
    header_opens zero-line {h = h} m = record {
      short = three_digits from_start h m.order m.terms m.modulus;
      placed = p.placed;
      line = omega (arith, p.line);
      field = p.field;
      begins = three_header from_start h m.order m.terms m.modulus;
    }

-- and not so read
module _ (s : List ℕ) (c : Cursor) (lead : List ℕ) (old new : List ℤ) (zero-byte : c.byte ≡ 0) where
  pub header-none : (r : Result Cursor BrokenLine) → result_ok r ≡ None
      → Read s c (three_form lead ∷ []) 0 old new r
      → (h : Header) (z : ℕ → ℤ) (t : List ℕ) → TenDigits h → Begins s (header_form lead h ∷ []) z 0 t → ⊥
  header-none (Ok d) e q h z t k b = none-some d (sym e)
  header-none (Err x) e q h z t k b =
      let three = three_of {lead = lead} k b in
      broken-one q (header_numbers h) t
      (subst (λ (i : ℕ). Begins (drop i s) (three_form lead ∷ []) (header_numbers h) 0 t) (sym zero-byte) three)
