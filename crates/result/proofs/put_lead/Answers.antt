-- `result::put_lead` meets its contract: the bytes of each kind.
-- Assumes nothing.
use Rattle.std.proofs.Common.{sym, ap}
use Rattle.text.proofs.Puts.{put_as}
use Rattle.header.specs.Header.{word_of}
use Rattle.result.specs.ResultSheet.{result_words}
use Rattle.result.proofs.put_lead.Goals as goal

pub returns-in-System : goal.returns-in-System
unfolding word_of
returns-in-System c =
    put_as (sym (ap result_words c.in-System.is)) c.put_bytes.ensures

pub returns-in-Basis : goal.returns-in-Basis
unfolding word_of
returns-in-Basis c =
    put_as (sym (ap result_words c.in-Basis.is)) c.put_bytes-in-Basis.ensures

pub returns-in-Equation : goal.returns-in-Equation
unfolding word_of
returns-in-Equation c =
    put_as (sym (ap result_words c.in-Equation.is)) c.put_bytes-in-Equation.ensures
