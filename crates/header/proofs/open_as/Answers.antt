-- `header::open_as` meets its contract: line 1 is three numbers behind the fields that lead.
-- Assumes nothing.
use Rattle.std.proofs.Common.{◌≡◌, refl, sym, ◌∙◌, Ok, arith}
use Rattle.header.proofs.Headers.{header_tens, header_opens, header-none}
use Rattle.header.proofs.open_as.Goals as goal

pub make_header-requires : goal.make_header-requires
make_header-requires c =
    let ok : c.read_line.result ≡ Ok c.in_ok-d.d = grind arith in
    header_tens refl (rw ok at c.read_line.ensures)

pub returns : goal.returns
returns c =
    let ok : c.read_line.result ≡ Ok c.in_ok-d.d = grind arith in
    let named = c.make_header.ensures in
    (named.same, header_opens refl (rw ok at c.read_line.ensures) refl named)

pub returns-in_err-d : goal.returns-in_err-d
returns-in_err-d c =
    let none = sym c.ok.ensures.value ∙ c.in_err-d.was in
    rw c.from_residual.ensures
    (header-none c.args.s.now _ c.args.lead.now _ _ refl c.read_line.result none c.read_line.ensures)
