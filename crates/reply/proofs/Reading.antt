-- What the solving program prints for a text, by what reading it gives: a refusal's line, or what is printed for the
-- job that it holds. A header that is brought is within the limits of a sheet.
-- Assumes nothing.
use Rattle.std.proofs.Common.{◌≡◌, refl, sym, ap, subst, ◌∙◌, List, [], ◌∷◌, ◌++◌, ℕ, ◌-◌, ℤ, length, Result, Ok, Err}
use Rattle.job.specs.declared.Kind.{Kind}
use Rattle.job.specs.declared.Kind.TheVariants.{Basis}
use Rattle.job.specs.declared.Refusal.{Refusal}
use Rattle.job.specs.Refusal.{Verdict, done, refused, Says, refusal_verdict}
use Rattle.job.specs.Job.{bytes, lengths_of, read_count}
use Rattle.job.specs.Rules.{limit_rules, size_rules}
use Rattle.job.proofs.Says.{refused_not_done, refusal_other, says_tail, says_split}
use Rattle.job.proofs.Accepted.{limits_of, small_of}
use Rattle.job.specs.declared.Header.{Header}
use Rattle.body.specs.JobLines.{read_lengths}
use Rattle.body.specs.Parts.{Small}
use Rattle.sheet.specs.Sheet.{Sheet, FirstLine}
use Rattle.sheet.specs.JobSheet.{job_forms}
use Rattle.sheet.specs.Rules.{room_rules, open_rules, line_rules, sheet_rules}
use Rattle.sheet.specs.Rooms.{FilledAll}
use Rattle.sheet.specs.Read.{JobOutcome}
use Rattle.sheet.proofs.Unique.{sheet_keeps, job_header}
use Rattle.reply.specs.Reply.{refusal_line, fresh, Reply, Replied}
use Rattle.reply.specs.Steps.{Blank, Refuses, Told, Comes}

-- the first line of a sheet decides its header
sheet_first : {s : List ℕ} {h : Header} {z : ℕ → ℤ} → Sheet job_forms s h z → FirstLine job_forms s h
sheet_first {s} {h} a =
    record { same = λ g k. job_header s g h k (sheet_keeps job_forms job_header a) }

-- a header that none of the rules for line 1 refuses
opened_small : (s : List ℕ) (h : Header) → Says (open_rules job_forms s h) done → Small h.r h.n
unfolding open_rules
opened_small s h says =
    let limits = limit_rules h.r h.n h.p in
    let both = says_split limits (size_rules bytes h.r h.n) (says_tail _ _ (says_tail _ _ says)) in
    let l = limits_of h.r h.n h.p both.0 in
    record {
      order_least = l.order_least;
      order = l.order;
      terms_least = l.terms_least;
      product = small_of h.r h.n both.1;
    }

-- a basis leaves room 3, which holds zeros
pub read_third
    : {s one two three : List ℕ} {h : Header} → JobOutcome s fresh (Ok h) (one ∷ two ∷ three ∷ [])
    → h.kind ≡ Basis → Blank 2048 three
unfolding FilledAll read_lengths read_count lengths_of
read_third {one = one} {two} {three} {h} o basis =
    let t = o.taken refl in
    let g = t.header in
    let brought = t.brought in
    let same : g ≡ h = cc in
    let kind : g.kind ≡ Basis = ap (λ (k : Header). k.kind) same ∙ basis in
    let filled = subst (λ (k : Kind).
    FilledAll g.p t.numbers 0 (read_lengths k g.r g.n) fresh (one ∷ two ∷ three ∷ [])) kind t.filled in
    record { zeros = filled.1.1.0 }

-- a header that is brought is within the limits of a sheet
pub read_small
    : {s : List ℕ} {h : Header} {rooms : List (List ℕ)} → JobOutcome s fresh (Ok h) rooms → Small h.r h.n
unfolding sheet_rules
read_small {s} {h} o =
    let t = o.taken refl in
    let g = t.header in
    let brought = t.brought in
    let same : g ≡ h = cc in
    let says = o.verdict g (sheet_first t.sheet) in
    let lines = line_rules job_forms s g 2 (length (job_forms g) - 1) in
    let opens = (says_split (room_rules fresh ++ open_rules job_forms s g) lines says).0 in
    rw same at (opened_small s g (says_split (room_rules fresh) (open_rules job_forms s g) opens).1)

module _ {s : List ℕ} {rooms : List (List ℕ)} where
  -- what is printed for a text that is refused
  pub reply_refused
      : {x : Refusal} {number first second : ℕ} → JobOutcome s fresh (Err x) rooms
      → refusal_verdict x ≡ refused number first second → Reply s (refusal_line number first second)
  reply_refused {x} {number} {first} {second} o is = record {
    reading = Err x;
    rooms = rooms;
    read = o;
    refuses = λ k l m q.
        let one : number ≡ k = cc in
        let two : first ≡ l = cc in
        let three : second ≡ m = cc in
        rw (one, two, three);
    calls = λ h q. cc;
  }

  module _ {before after : List ℕ} {e : ℕ} where
    -- the job is called
    pub replied_called
        : {h : Header} → JobOutcome s fresh (Ok h) rooms → Told h rooms before after e → Replied s before after e
    replied_called {h} o told = record {
      text = told.text;
      reply = record {
        reading = Ok h;
        rooms = rooms;
        read = o;
        refuses = λ number first second q. absurd (refused_not_done number first second (sym q));
        calls = λ g q. let same : h ≡ g = cc in rw same at told.called;
      };
      put = told.put;
    }

    -- the text is refused
    pub replied_refused
        : {x : Refusal} → JobOutcome s fresh (Err x) rooms → Refuses (refusal_verdict x) before after e
        → Replied s before after e
    replied_refused {x} o put = by (refusal_verdict x) refl put
      where
        by : (v : Verdict) → refusal_verdict x ≡ v → Refuses v before after e → Replied s before after e
        by done q put = absurd (refusal_other x q)
        by (refused number first second) q put =
            record { text = refusal_line number first second; reply = reply_refused o q; put = put }

  -- what comes of the job comes of the text
  pub comes_called
      : {h : Header} (before after : List ℕ) → JobOutcome s fresh (Ok h) rooms → (w : Result ℕ Refusal)
      → Comes (Told h rooms before) w after → Comes (Replied s before) w after
  comes_called before after o (Ok e) told = replied_called o told
  comes_called before after o (Err x) told = λ last e put. replied_called o (told last e put)
