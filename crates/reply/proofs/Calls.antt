-- Jobs that stand in rooms: the buffers that are handed to a call are those of `job_in`, and from the outcome of the
-- call follows what is printed for it, be it refused or done.
-- Assumes nothing.
use Rattle.std.proofs.Common.{
  ◌≡◌,
  refl,
  ap,
  ◌∙◌,
  List,
  [],
  ◌∷◌,
  ℕ,
  ◌*◌,
  ◌≤◌,
  arith,
  length,
  get_or,
  take,
  replicate,
  Err,
}
use Rattle.std.proofs.lemmas.List.{length-replicate, take-replicate}
use Rattle.job.specs.declared.Kind.{Kind}
use Rattle.job.specs.declared.Kind.TheVariants.{System, Basis, Equation}
use Rattle.job.specs.declared.Refusal.{Refusal}
use Rattle.job.specs.Refusal.{Verdict, done, refused, refusal_verdict, Answer, verdict_of}
use Rattle.job.specs.Job.{Job, Buffers, buffers, words, carried, room_of, lengths_of, read_count}
use Rattle.job.specs.Outcome.{Outcome}
use Rattle.job.proofs.Says.{refusal_other}
use Rattle.refusal.specs.Checked.{job_of, Measured}
use Rattle.text.specs.Put.{Put}
use Rattle.job.specs.declared.Header.{Header}
use Rattle.body.specs.Parts.{Small}
use Rattle.body.proofs.Sizes.{sizes}
use Rattle.sheet.specs.Parts.{Roomy}
use Rattle.result.specs.ResultSheet.{result_text}
use Rattle.reply.specs.Reply.{refusal_line, lent_of, job_in, printed_of, text_for}
use Rattle.reply.specs.Steps.{Blank, Callable, Refuses, Told}

module _ {k : ℕ} {s : List ℕ} (b : Blank k s) where
  blank_length : length s ≡ k
  blank_length = ap length b.zeros ∙ length-replicate {A = ℕ} k 0

  blank_first : {m : ℕ} → m ≤ k → take m s ≡ replicate m 0
  blank_first {m} h = ap (λ (t : List ℕ). take m t) b.zeros ∙ take-replicate m k 0 h

-- a sheet's job has at most so many words in each buffer
pub record Spans (l : List ℕ) : Type 0 where
  pub one : get_or l 0 0 ≤ 2048
  pub two : get_or l 1 0 ≤ 2048
  pub three : get_or l 2 0 ≤ 2048
  pub four : get_or l 3 0 ≤ 1024
  pub five : get_or l 4 0 ≤ 16384

spans : (kind : Kind) {r n : ℕ} → Small r n → Spans (lengths_of kind r n)
unfolding lengths_of carried room_of
spans System m =
    let s = sizes m in
    record { one = omega arith; two = omega arith; three = omega arith; four = omega arith; five = omega arith }
spans Basis m =
    let s = sizes m in
    record { one = omega arith; two = omega arith; three = omega arith; four = omega arith; five = omega arith }
spans Equation m =
    let s = sizes m in
    record { one = omega arith; two = omega arith; three = omega arith; four = omega arith; five = omega arith }

-- and they are there
pub record There (l one two three four work : List ℕ) : Type 0 where
  pub few : Spans l
  pub rooms : Roomy one two three
  pub fourth : length four ≡ 1024
  pub fifth : length work ≡ 16384

pub there
    : {h : Header} {one two three four work out l : List ℕ} → Callable h one two three four work out
    → Measured h.kind h.r h.n l → There l one two three four work
there {h} c m = record {
  few = rw m.exact (spans h.kind c.small);
  rooms = c.rooms;
  fourth = blank_length c.fourth;
  fifth = blank_length c.scratch;
}

-- the first words of each, so many as the list says
abbrev pub handed : List ℕ → List ℕ → List ℕ → List ℕ → List ℕ → List ℕ → Buffers
handed l one two three four work =
    buffers (take (get_or l 0 0) one) (take (get_or l 1 0) two) (take (get_or l 2 0) three) (take (get_or l 3 0) four)
    (take (get_or l 4 0) work)

-- they are the buffers of the job in the rooms
module _ (one two : List ℕ) {three four work : List ℕ} (fourth : Blank 1024 four) (scratch : Blank 16384 work) where
  handed-lent
      : (kind : Kind) (r n : ℕ) → Spans (lengths_of kind r n) → (kind ≡ Basis → Blank 2048 three)
      → handed (lengths_of kind r n) one two three four work ≡ lent_of kind r n (one ∷ two ∷ three ∷ [])
  unfolding lent_of lengths_of carried room_of read_count
  handed-lent System r n s third =
      rw (blank_first fourth {m = r * n} s.four, blank_first scratch {m = 16 * (r * r * n)} s.five)
  handed-lent Basis r n s third =
      rw (
        blank_first (third refl) {m = r * r * n} s.three,
        blank_first fourth {m = r * r * n} s.four,
        blank_first scratch {m = 16 * (r * r * n)} s.five,
      )
  handed-lent Equation r n s third =
      rw (blank_first fourth {m = n} s.four, blank_first scratch {m = 16 * (r * r * n)} s.five)

pub job_handed
    : {h : Header} {one two three four work out l : List ℕ} → Callable h one two three four work out
    → Measured h.kind h.r h.n l
    → job_of h.kind h.r h.n h.p (handed l one two three four work)
    ≡ job_in h (one ∷ two ∷ three ∷ [])
job_handed {h} {one} {two} c m =
    let s = spans h.kind c.small in
    rw m.exact
    (ap (job_of h.kind h.r h.n h.p)
    (handed-lent one two c.fourth c.scratch h.kind h.r h.n s c.third))

-- what is printed, for a job that is the one in the rooms
module _ {h : Header} {rooms : List (List ℕ)} {job : Job} {after : Buffers} (is : job ≡ job_in h rooms)
    {before out : List ℕ} {e : ℕ} where
  pub told_refused
      : {x : Refusal} → Outcome words job (Err x) after → Refuses (refusal_verdict x) before out e
      → Told h rooms before out e
  unfolding text_for
  told_refused {x} outcome put = by (refusal_verdict x) refl put
    where
      by : (v : Verdict) → refusal_verdict x ≡ v → Refuses v before out e → Told h rooms before out e
      by done q put = absurd (refusal_other x q)
      by (refused number first second) q put = record {
        text = refusal_line number first second;
        called = record { answer = Err x; after = after; outcome = rw is at outcome; prints = rw q refl };
        put = put;
      }

  pub told_done
      : {a : Answer} → Outcome words job a after → verdict_of a ≡ done
      → Put 0 (result_text h (printed_of h.kind after.three after.four)) before out e
      → Told h rooms before out e
  unfolding text_for
  told_done {a} outcome q put = record {
    text = result_text h (printed_of h.kind after.three after.four);
    called = record { answer = a; after = after; outcome = rw is at outcome; prints = rw q refl };
    put = put;
  }
