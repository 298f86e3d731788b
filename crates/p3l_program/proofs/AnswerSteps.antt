-- Facts that follow from the status of an answer.
use Rattle.std.proofs.Common.{◌≡◌, ◌≢◌, ℕ, Bool, ◌<◌, true, List, [], ◌∷◌, ◌++◌, ◌⊎◌, Option, Some, refl, sym, ap, subst, inl, inr, ◌∙◌, arith}
use Rattle.clap.specs.Words.{Text}
use Rattle.p3l_io.specs.Change.{Change, HasRisen, HasSameContent}
use Rattle.p3l_io.specs.Content.{Held}
use Rattle.p3l_opts.specs.declared.command.Command.{Command}
use Rattle.p3l_opts.specs.Command.{Spells}
use Rattle.p3l_opts.specs.Laws.{SpellsOneAtMost}
use Rattle.p3l_report.proofs.Statuses as statuses
use Rattle.p3l_report.specs.declared.stats.Stats.{Stats}
use Rattle.p3l_report.specs.declared.stats.Stats.TheVariants.{Scheduled}
use Rattle.p3l_report.specs.declared.verdict.Finish.{Finish}
use Rattle.p3l_report.specs.declared.verdict.Finish.TheVariants as finish
use Rattle.p3l_report.specs.declared.verdict.Refusal.{Refusal}
use Rattle.p3l_report.specs.declared.verdict.Refusal.TheVariants as refusal
use Rattle.p3l_report.specs.declared.verdict.Verdict.{Verdict}
use Rattle.p3l_report.specs.declared.verdict.Verdict.TheVariants as verdict
use Rattle.p3l_report.specs.Status as status
use Rattle.p3l_report.specs.Verdict.{finish_line, finish_status, lines_of, refusal_status, status_of}
use Rattle.p3l_program.specs.Answer.{Answers, BeginsWork, HasTooLong, IsDone, IsEndedWith, IsExpected, IsRefusedAt, IsRefusedWith, IsStopped, IsUnsaved, IsUnwritten, KeepsOthers, Reports, SpellsNone, SpellsWriter}
use Rattle.p3l_program.specs.Command.{IsExpectedOf, IsStatusExpected, behavior_of, run_of, saved_first, stages_of, written_of}
use Rattle.p3l_program.specs.File.{IsTooLong}
use Rattle.p3l_program.specs.Origin.{Running}
use Rattle.p3l_program.specs.Run.{Emits, EndsRun, shown}
use Rattle.p3l_program.specs.Saved.{HasOneFailed}
use Rattle.p3l_program.specs.Stage.{AllPass, FilesCause, IsRefusedBy, Stage, readable}
use Rattle.p3l_program.specs.Top.{Promises}
use Rattle.p3l_run.specs.declared.end.RunStats.{RunStats}
use Rattle.p3l_program.specs.Wants.{IsWanting, SavesLong, Wants}
use Rattle.p3l_program.specs.World.{HasNoFault, IsUntouched, World}
use Rattle.p3l_program.proofs.FirstSteps.{first_writer, kept_first, left_first}
use Rattle.p3l_program.proofs.Lawful.{IsFaultlessStatus}
use Rattle.p3l_program.proofs.RunLaws.{emits_of}
use Rattle.p3l_program.proofs.StageSteps.{not_longer, passed_all, refused_once}
use Rattle.p3l_program.proofs.WorkLaws.{lawful}

module _ (words : List Text) (w : World) where
  -- the text written is a prefix of that of the command
  begins_by : (v : Verdict) → IsExpected words w v → IsUntouched w ⊎ BeginsWork words w
  begins_by (verdict.Refused r) (inl a) = inl a.expected.untouched
  begins_by (verdict.Ended finish stats) (inl a) =
      inr (record { command = a.command; spelled = a.spelled; begun = record { passed = a.expected.passed; begins = (lawful a.command).begun w finish stats a.expected.ends } })
  begins_by verdict.WriteFault (inl a) = inr (record { command = a.command; spelled = a.spelled; begun = a.expected.begun })
  begins_by verdict.NoMemory (inl a) = elim a.expected [
    | inl still ↦ inl still
    | inr begun ↦ inr (record { command = a.command; spelled = a.spelled; begun = begun })
  ]
  begins_by v (inr (inl u)) = inl u.untouched
  begins_by v (inr (inr (inl u))) = inl u.untouched
  begins_by v (inr (inr (inr u))) = inl u.untouched

  -- an end is expected of a command that came to it
  ended_by : (finish : Finish) (stats : Option Stats) (n : ℕ) → finish_status finish ≡ n → IsExpected words w (verdict.Ended finish stats) → IsEndedWith words w n
  ended_by finish stats n h (inl a) = record { command = a.command; spelled = a.spelled; finish = finish; stats = stats; status_is = h; end = a.expected }
  ended_by finish stats n h (inr (inl u)) = absurd (let z = u.verdict_is in cc)
  ended_by finish stats n h (inr (inr (inl u))) = absurd (let z = u.verdict_is in cc)
  ended_by finish stats n h (inr (inr (inr u))) = absurd (let z = u.verdict_is in cc)

  -- a refusal is expected of words that are no command, or of a stage
  refused_by : (r : Refusal) (n : ℕ) → refusal_status r ≡ n → IsExpected words w (verdict.Refused r) → IsRefusedWith words w n
  refused_by r n h (inl a) = record {
    refused = r;
    status_is = h;
    by = inr (record { command = a.command; spelled = a.spelled; by = a.expected.by });
    untouched = a.expected.untouched;
    kept = left_first words w.files a.command a.spelled r (saved_first a.command) refl a.kept;
  }
  refused_by r n h (inr (inl u)) = record { refused = r; status_is = h; by = inl ((let z = u.verdict_is in cc), u.none); untouched = u.untouched; kept = inl u.files.same_content }
  refused_by r n h (inr (inr (inl u))) = absurd (let z = u.verdict_is in cc)
  refused_by r n h (inr (inr (inr u))) = absurd (let z = u.verdict_is in cc)

  usage_by : (v : Verdict) → SpellsNone words → IsExpected words w v → (status_of v ≡ status.usage) ⊎ (status_of v ≡ status.no_memory)
  usage_by v none (inl a) = absurd (none a.command a.spelled)
  usage_by v none (inr (inl u)) = inl (ap status_of u.verdict_is)
  usage_by v none (inr (inr (inl u))) = inr (ap status_of u.verdict_is)
  usage_by v none (inr (inr (inr u))) = absurd (none u.command u.spelled)

  -- the status of a command whose stages pass, or one of which refuses
  module _ (once : SpellsOneAtMost) (c : Command) (spelled : Spells words c) where
    -- the verdict is expected of this command, or memory ran out, or a file that it writes before its work could not be written
    request : (v : Verdict) → IsExpected words w v → IsExpectedOf w c v ⊎ ((status_of v ≡ status.no_memory) ⊎ IsUnsaved words w v)
    request v (inl a) = inl (subst (λ k. IsExpectedOf w k v) (once words a.command c a.spelled spelled) a.expected)
    request v (inr (inl u)) = absurd (u.none c spelled)
    request v (inr (inr (inl u))) = inr (inl (ap status_of u.verdict_is))
    request v (inr (inr (inr u))) = inr (inr u)

    -- a command that writes no file has no such status
    no_saves : (v : Verdict) → saved_first c ≡ [] → IsUnsaved words w v → ⊥
    no_saves v none u = u.some (ap saved_first (once words u.command c u.spelled spelled) ∙ none)

    module _ (held : Held) (known : w.files.old.content ≡ Some held) (faultless : HasRisen w.files → ⊥) where
      stage_refuses : (r : Refusal) → IsRefusedBy w.files (stages_of c) r → (v : Verdict) → IsExpectedOf w c v → (status_of v ≡ refusal_status r) ⊎ (status_of v ≡ status.no_memory)
      stage_refuses r by (verdict.Refused other) expected = inl (refused_once w.files held known faultless (stages_of c) other r expected.by by)
      stage_refuses r by (verdict.Ended finish stats) expected = absurd (passed_all w.files held known faultless (stages_of c) r expected.passed by)
      stage_refuses r by verdict.WriteFault expected = absurd (passed_all w.files held known faultless (stages_of c) r expected.begun.passed by)
      stage_refuses r by verdict.NoMemory expected = inr refl

    -- a file that is too long stops the first stage
    module _ (held : Held) (known : w.files.old.content ≡ Some held) (name : List ℕ) where
      module _ (limit : ℕ) (after : List Stage) (longer : IsTooLong w.files.old.content limit name) where
        never_read : AllPass w.files (readable limit name ∷ after) → ⊥
        never_read p = not_longer w.files.old.content held known limit name p.0.0 p.0.1 longer

        read_refused : (r : Refusal) → IsRefusedBy w.files (readable limit name ∷ after) r → refusal_status r ≡ status.file
        read_refused (refusal.FileFault a) (inl h) = refl
        read_refused (refusal.FileTooLong a) (inl h) = refl
        read_refused r (inr h) = absurd (not_longer w.files.old.content held known limit name h.0.0 h.0.1 longer)
        read_refused r (inl h) = absurd h

        module _ (first : stages_of c ≡ readable limit name ∷ after) where
          not_read : AllPass w.files (stages_of c) → ⊥
          not_read p = never_read (subst (λ stages. AllPass w.files stages) first p)

          long_by : (v : Verdict) → IsExpectedOf w c v → (status_of v ≡ status.file) ⊎ (status_of v ≡ status.no_memory)
          long_by (verdict.Refused r) expected = inl (read_refused r (subst (λ stages. IsRefusedBy w.files stages r) first expected.by))
          long_by (verdict.Ended finish stats) expected = absurd (not_read expected.passed)
          long_by verdict.WriteFault expected = absurd (not_read expected.begun.passed)
          long_by verdict.NoMemory expected = inr refl

    -- without a fault it comes to its end
    module _ (held : Held) (rest : List ℕ) (known : w.files.old.content ≡ Some held) (input : w.input.old.content ≡ Some rest) (passed : AllPass w.files (stages_of c)) (faultless : HasNoFault w) where
      complete_by : (v : Verdict) → IsExpectedOf w c v → IsStatusExpected w rest c (status_of v) ⊎ (status_of v ≡ status.no_memory)
      complete_by (verdict.Refused r) expected = absurd (passed_all w.files held known faultless.files (stages_of c) r passed expected.by)
      complete_by (verdict.Ended finish stats) expected = inl ((lawful c).status_expected w rest finish stats input faultless expected.ends)
      complete_by verdict.WriteFault expected = elim expected.fault [ inl put ↦ absurd (faultless.output put.output) | inr saved ↦ absurd (faultless.files ((lawful c).writer w saved).failed.0) ]
      complete_by verdict.NoMemory expected = inr refl

files_refused : (r : Refusal) (files : Change Held) → FilesCause r files → files.old.faults < files.new.faults → refusal_status r ≡ status.file
files_refused (refusal.FileFault name) files cause up = refl
files_refused _ files cause up = absurd (omega arith)

module _ (outside : Bool) (words : List Text) (w : World) (err : Change (List ℕ)) (n : ℕ) (a : Answers outside words w err n) where
  at : status_of a.verdict ≡ n
  at = sym a.status_is

  begins : IsUntouched w ⊎ BeginsWork words w
  begins = begins_by words w a.verdict a.expected

  ended : status.is_end n ≡ true → IsEndedWith words w n
  ended kind =
      let e = statuses.ended_with a.verdict n at kind in
      ended_by words w e.finish e.stats n e.status_is (subst (λ v. IsExpected words w v) e.verdict_is a.expected)

  refused : status.is_refusal n ≡ true → IsRefusedWith words w n
  refused kind =
      let r = statuses.refused_with a.verdict n at kind in
      refused_by words w r.refusal n r.status_is (subst (λ v. IsExpected words w v) r.verdict_is a.expected)

  evidence : n ≡ status.evidence → IsRefusedWith words w n ⊎ IsEndedWith words w n
  evidence is = elim (statuses.evidence_with a.verdict (at ∙ is)) [
    | inl r ↦ inl (refused_by words w r.refusal n (r.status_is ∙ sym is) (subst (λ v. IsExpected words w v) r.verdict_is a.expected))
    | inr d ↦ inr (ended_by words w (finish.Differs d.line) d.stats n (sym is) (subst (λ v. IsExpected words w v) d.verdict_is a.expected))
  ]

  move : (m : ℕ) → (status_of a.verdict ≡ m) ⊎ (status_of a.verdict ≡ status.no_memory) → (n ≡ m) ⊎ (n ≡ status.no_memory)
  move m h = subst (λ k. (k ≡ m) ⊎ (k ≡ status.no_memory)) at h

  usage_where : SpellsNone words → (n ≡ status.usage) ⊎ (n ≡ status.no_memory)
  usage_where none = move status.usage (usage_by words w a.verdict none a.expected)

  refused_where : SpellsOneAtMost → (held : Held) → w.files.old.content ≡ Some held → (r : Refusal) → IsRefusedAt words w.files r → (HasRisen w.files → ⊥) → (n ≡ refusal_status r) ⊎ (n ≡ status.no_memory)
  refused_where once held known r at_stage faultless = elim (request words w once at_stage.command at_stage.spelled a.verdict a.expected) [
    | inl expected ↦ move (refusal_status r) (stage_refuses words w once at_stage.command at_stage.spelled held known faultless r at_stage.by a.verdict expected)
    | inr (inl want) ↦ inr (sym at ∙ want)
    | inr (inr u) ↦ absurd (faultless u.failed.failed.0)
  ]

  long_file : SpellsOneAtMost → (held : Held) → w.files.old.content ≡ Some held → HasTooLong words w.files.old.content → (n ≡ status.file) ⊎ (n ≡ status.no_memory)
  long_file once held known long = elim (request words w once long.command long.spelled a.verdict a.expected) [
    | inl expected ↦ move status.file (long_by words w once long.command long.spelled held known long.name long.limit long.after long.longer long.reads_first a.verdict expected)
    | inr (inl want) ↦ inr (sym at ∙ want)
    | inr (inr u) ↦ absurd (no_saves words w once long.command long.spelled a.verdict ((lawful long.command).reads_first long.limit long.name long.after long.reads_first) u)
  ]

  completes : SpellsOneAtMost → (held : Held) (rest : List ℕ) → w.files.old.content ≡ Some held → w.input.old.content ≡ Some rest → (c : Command) → Spells words c → AllPass w.files (stages_of c) → HasNoFault w → IsStatusExpected w rest c n ⊎ (n ≡ status.no_memory)
  completes once held rest known input c spelled passed faultless = elim (request words w once c spelled a.verdict a.expected) [
    | inl expected ↦ subst (λ k. IsStatusExpected w rest c k ⊎ (k ≡ status.no_memory)) at (complete_by words w once c spelled held rest known input passed faultless a.verdict expected)
    | inr (inl want) ↦ inr (sym at ∙ want)
    | inr (inr u) ↦ absurd (faultless.files u.failed.failed.0)
  ]

  done : (rest taken : List ℕ) → w.input.old.content ≡ Some rest → w.output.old.content ≡ Some taken → n ≡ status.done → IsDone words w rest taken
  done rest taken input out h =
      let e = ended (ap status.is_end h) in
      record { command = e.command; spelled = e.spelled; whole = (lawful e.command).whole w rest taken e.finish e.stats input out (e.status_is ∙ h) e.end.ends }

  -- a command that runs a network, and an end of it
  module _ (once : SpellsOneAtMost) (c : Command) (run : Running) (spelled : Spells words c) (runs : run_of c ≡ Some run) (kind : status.is_end n ≡ true) where
    record RunEnded : Type 0 where
      finish : Finish
      stats : Option Stats
      verdict_is : a.verdict ≡ verdict.Ended finish stats
      ends : EndsRun w run.origin run.schedule run.trace run.reported finish stats

    run_ended : RunEnded
    run_ended =
        let e = statuses.ended_with a.verdict n at kind in
        let expected : IsExpected words w (verdict.Ended e.finish e.stats) = subst (λ v. IsExpected words w v) e.verdict_is a.expected in
        elim (request words w once c spelled (verdict.Ended e.finish e.stats) expected) [
          | inl own ↦ record { finish = e.finish; stats = e.stats; verdict_is = e.verdict_is; ends = (lawful c).ran w run e.finish e.stats runs own.ends }
          | inr (inr u) ↦ absurd (let z = u.verdict_is in cc)
          | inr (inl want) ↦ absurd (let z : status.is_end status.no_memory ≡ true = ap status.is_end (sym want ∙ sym (ap status_of e.verdict_is) ∙ at) ∙ kind in cc)
        ]

    recorded : (numbers : RunStats) × Emits w run.origin run.schedule run.trace numbers
    recorded = (run_ended.ends.ran.stats, emits_of w run.origin run.schedule run.trace run.reported run_ended.finish run_ended.stats run_ended.ends)

    reported : run.reported ≡ true → (said : List ℕ) → err.old.content ≡ Some said → (HasRisen err → ⊥) → Reports w run said err.new.content
    reported request said known faultless =
        let e = run_ended in
        let numbers : e.stats ≡ Some (Scheduled e.ends.ran.stats) = e.ends.stats_are ∙ ap (λ b. shown b (Scheduled e.ends.ran.stats)) request in
        let line : err.new.content ≡ Some (said ++ lines_of (verdict.Ended e.finish e.stats)) = a.says said known faultless ∙ ap (λ v. Some (said ++ lines_of v)) e.verdict_is in
        record {
          numbers = e.ends.ran.stats;
          more = finish_line e.finish;
          line = line ∙ ap (λ s. Some (said ++ lines_of (verdict.Ended e.finish s))) numbers;
          emits = emits_of w run.origin run.schedule run.trace run.reported e.finish e.stats e.ends;
        }

  -- a stop is that of a run at the end of its picks
  stopped : n ≡ status.stopped → IsStopped words w
  stopped h =
      let e = ended (ap status.is_end h) in
      record { command = e.command; spelled = e.spelled; stops = (lawful e.command).stopped w e.finish e.stats e.end.ends (e.status_is ∙ h) }

  -- an end of such a status leaves the count of the input
  faultless_end : (k : ℕ) → IsFaultlessStatus k → w.input.old.faults < w.input.new.faults → n ≢ k
  faultless_end k faultless up h =
      let e = ended (ap status.is_end h ∙ faultless.0) in
      let z = (lawful e.command).same_faults w e.finish e.stats e.end.ends (subst IsFaultlessStatus (sym (e.status_is ∙ h)) faultless) in absurd (omega arith)

  input_failed : w.input.old.faults < w.input.new.faults → (n ≢ status.done) × (n ≢ status.too_long) × (n ≢ status.stream)
  input_failed up = (
    faultless_end status.done (refl, (λ z. absurd (omega arith)), (λ z. absurd (omega arith)), (λ z. absurd (omega arith))) up,
    faultless_end status.too_long (refl, (λ z. absurd (omega arith)), (λ z. absurd (omega arith)), (λ z. absurd (omega arith))) up,
    faultless_end status.stream (refl, (λ z. absurd (omega arith)), (λ z. absurd (omega arith)), (λ z. absurd (omega arith))) up,
  )

  read_fault : n ≡ status.read → HasRisen w.input
  read_fault h = (let e = ended (ap status.is_end h) in (lawful e.command).read w e.finish e.stats e.end.ends (e.status_is ∙ h))

  -- the file that could not be written is one that the command writes
  unwritten : (c : Command) → Spells words c → (behavior_of c).Unsaved w → IsUnwritten words w.files
  unwritten c spelled h = record { command = c; spelled = spelled; failed = (lawful c).writer w h }

  -- so the command writes a file
  some_written : (names : List (List ℕ)) → HasOneFailed w.files names → names ≢ []
  some_written [] h none = h.one
  some_written (name ∷ names) h none = absurd cc

  writer : IsUnwritten words w.files → SpellsWriter words
  writer u = record { command = u.command; spelled = u.spelled; writes = some_written (written_of u.command) u.failed }

  write_by : IsExpected words w verdict.WriteFault → HasRisen w.output ⊎ IsUnwritten words w.files
  write_by (inl d) = elim d.expected.fault [ inl put ↦ inl put.output | inr saved ↦ inr (unwritten d.command d.spelled saved) ]
  write_by (inr (inl u)) = absurd (let z = u.verdict_is in cc)
  write_by (inr (inr (inl u))) = absurd (let z = u.verdict_is in cc)
  write_by (inr (inr (inr u))) = inr (record { command = u.command; spelled = u.spelled; failed = u.failed })

  write_fault : n ≡ status.write → HasRisen w.output ⊎ IsUnwritten words w.files
  write_fault h = write_by (subst (λ v. IsExpected words w v) (statuses.write_is a.verdict (at ∙ h)) a.expected)

  out_by : (v : Verdict) → IsExpected words w v → w.output.old.faults < w.output.new.faults → (status_of v ≡ status.write) ⊎ (status_of v ≡ status.no_memory)
  out_by (verdict.Refused r) (inl d) up = absurd (let z = d.expected.untouched.output.same_faults in omega arith)
  out_by (verdict.Ended f s) (inl d) up = absurd (let z = d.expected.output in omega arith)
  out_by verdict.WriteFault (inl d) up = inl refl
  out_by verdict.NoMemory (inl d) up = inr refl
  out_by v (inr (inl u)) up = absurd (let z = u.untouched.output.same_faults in omega arith)
  out_by v (inr (inr (inl u))) up = absurd (let z = u.untouched.output.same_faults in omega arith)
  out_by v (inr (inr (inr u))) up = absurd (let z = u.untouched.output.same_faults in omega arith)

  out_failed : w.output.old.faults < w.output.new.faults → (n ≡ status.write) ⊎ (n ≡ status.no_memory)
  out_failed up = move status.write (out_by a.verdict a.expected up)

  -- the statuses of a failure of the files
  abbrev IsFileStatus : ℕ → Type 0
  IsFileStatus k = (k ≡ status.file) ⊎ ((k ≡ status.no_memory) ⊎ (SpellsWriter words × (k ≡ status.write)))

  files_by : (v : Verdict) → IsExpected words w v → w.files.old.faults < w.files.new.faults → IsFileStatus (status_of v)
  files_by (verdict.Refused r) (inl d) up = inl (files_refused r w.files d.expected.files up)
  files_by (verdict.Ended f s) (inl d) up = absurd (let z = d.expected.files in omega arith)
  files_by verdict.WriteFault (inl d) up = elim d.expected.fault [
    | inl put ↦ absurd (let z = put.files in omega arith)
    | inr saved ↦ inr (inr (writer (unwritten d.command d.spelled saved), refl))
  ]
  files_by verdict.NoMemory (inl d) up = inr (inl refl)
  files_by v (inr (inl u)) up = absurd (let z = u.files.same_faults in omega arith)
  files_by v (inr (inr (inl u))) up = inr (inl (ap status_of u.verdict_is))
  files_by v (inr (inr (inr u))) up = inr (inr (first_writer words u.command u.spelled u.some, ap status_of u.verdict_is))

  files_failed : w.files.old.faults < w.files.new.faults → IsFileStatus n
  files_failed up = subst IsFileStatus at (files_by a.verdict a.expected up)

  -- the files that are changed
  files_kept : (v : Verdict) → IsExpected words w v → HasSameContent w.files ⊎ KeepsOthers words w
  files_kept v (inl d) = elim d.touched [
    | inl same ↦ inl same
    | inr by ↦ elim (kept_first w.files (written_of d.command) (saved_first d.command) v d.kept) [
      | inl same ↦ inl same
      | inr kept ↦ inr (record { command = d.command; spelled = d.spelled; kept = kept; touched = by })
    ]
  ]
  files_kept v (inr (inl u)) = inl u.files.same_content
  files_kept v (inr (inr (inl u))) = inl u.kept
  files_kept v (inr (inr (inr u))) = inr (record { command = u.command; spelled = u.spelled; kept = u.kept; touched = (lawful u.command).touches w u.some })

  files_stay : HasSameContent w.files ⊎ KeepsOthers words w
  files_stay = files_kept a.verdict a.expected

  no_memory : n ≡ status.no_memory → IsWanting outside ⊎ SavesLong words w.files.old.content
  no_memory is = subst (λ v. Wants outside v ⊎ SavesLong words w.files.old.content) (statuses.no_memory_is a.verdict (at ∙ is)) a.wants

  pub promises : SpellsOneAtMost → Promises outside words w err n
  promises once = record {
    answers = a;
    begins = begins;
    done = λ held rest taken known input out. done rest taken input out;
    ended = ended;
    refused = refused;
    evidence = evidence;
    usage_where = usage_where;
    refused_where = λ held rest taken known input out r by faultless. refused_where once held known r by faultless;
    long_file = λ held rest taken known input out long. long_file once held known long;
    completes = λ held rest taken known input out c spelled passed faultless. completes once held rest known input c spelled passed faultless;
    reported = λ c run spelled runs request kind said known faultless. reported once c run spelled runs kind request said known faultless;
    recorded = λ c run spelled runs kind. recorded once c run spelled runs kind;
    stopped = stopped;
    read_fault = read_fault;
    write_fault = write_fault;
    out_failed = out_failed;
    files_failed = files_failed;
    input_failed = input_failed;
    no_memory = no_memory;
    files_stay = files_stay;
  }
