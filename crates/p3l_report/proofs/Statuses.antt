-- The verdicts that have a given status.
use Rattle.std.proofs.Common.{◌≡◌, ◌⊎◌, ◌==◌, ℕ, Bool, true, false, List, Option, inl, inr, refl, sym, ap, ◌∙◌, arith}
use Rattle.p3l_base.specs.declared.outcome.TrapKind.{TrapKind}
use Rattle.p3l_stream.specs.declared.items.Ending.{Ending}
use Rattle.p3l_stream.specs.declared.items.Ending.TheVariants as ending
use Rattle.p3l_run.specs.declared.end.RunEnd.{RunEnd}
use Rattle.p3l_run.specs.declared.end.RunEnd.TheVariants as end
use Rattle.p3l_report.specs.declared.stats.Stats.{Stats}
use Rattle.p3l_report.specs.declared.verdict.Refusal.{Refusal}
use Rattle.p3l_report.specs.declared.verdict.Refusal.TheVariants as refusal
use Rattle.p3l_report.specs.declared.verdict.Finish.{Finish}
use Rattle.p3l_report.specs.declared.verdict.Finish.TheVariants as finish
use Rattle.p3l_report.specs.declared.verdict.Verdict.{Verdict}
use Rattle.p3l_report.specs.declared.verdict.Verdict.TheVariants as verdict
use Rattle.p3l_report.specs.Status as status
use Rattle.p3l_report.specs.Verdict.{end_status, ending_status, finish_status, refusal_status, status_of}

-- no refusal and no end is a failed writing
abbrev is_write : ℕ → Bool
is_write n = n == status.write

refusal_no_write : (r : Refusal) → is_write (refusal_status r) ≡ false
refusal_no_write refusal.Usage = refl
refusal_no_write _ = refl

ending_no_write : (e : Ending) → is_write (ending_status e) ≡ false
ending_no_write ending.End = refl
ending_no_write _ = refl

abbrev is_evidence : ℕ → Bool
is_evidence n = n == status.evidence

ending_no_evidence : (e : Ending) → is_evidence (ending_status e) ≡ false
ending_no_evidence ending.End = refl
ending_no_evidence _ = refl

end_no_evidence : (e : RunEnd) → is_evidence (end_status e) ≡ false
end_no_evidence (end.Stream close) = ending_no_evidence close
end_no_evidence _ = refl

end_no_write : (e : RunEnd) → is_write (end_status e) ≡ false
end_no_write (end.Stream close) = ending_no_write close
end_no_write _ = refl

finish_no_write : (f : Finish) → is_write (finish_status f) ≡ false
finish_no_write (finish.Run e) = end_no_write e
finish_no_write _ = refl

-- none of them is out of memory
abbrev is_no_memory : ℕ → Bool
is_no_memory n = n == status.no_memory

refusal_no_memory : (r : Refusal) → is_no_memory (refusal_status r) ≡ false
refusal_no_memory refusal.Usage = refl
refusal_no_memory _ = refl

ending_no_memory : (e : Ending) → is_no_memory (ending_status e) ≡ false
ending_no_memory ending.End = refl
ending_no_memory _ = refl

end_no_memory : (e : RunEnd) → is_no_memory (end_status e) ≡ false
end_no_memory (end.Stream close) = ending_no_memory close
end_no_memory _ = refl

finish_no_memory : (f : Finish) → is_no_memory (finish_status f) ≡ false
finish_no_memory (finish.Run e) = end_no_memory e
finish_no_memory _ = refl

-- no ending of a stream is a trap
abbrev is_trap : ℕ → Bool
is_trap n = n == status.trap

ending_no_trap : (e : Ending) → is_trap (ending_status e) ≡ false
ending_no_trap ending.End = refl
ending_no_trap _ = refl

-- the two kinds of statuses are apart
ending_other : (e : Ending) → status.is_refusal (ending_status e) ≡ false
ending_other ending.End = refl
ending_other _ = refl

end_other : (e : RunEnd) → status.is_refusal (end_status e) ≡ false
end_other (end.Stream close) = ending_other close
end_other _ = refl

pub finish_other : (f : Finish) → status.is_refusal (finish_status f) ≡ false
finish_other (finish.Run e) = end_other e
finish_other _ = refl

pub refusal_other : (r : Refusal) → status.is_end (refusal_status r) ≡ false
refusal_other refusal.Usage = refl
refusal_other _ = refl

-- a verdict that is a refusal of this status
pub record IsRefusedWith (v : Verdict) (n : ℕ) : Type 0 where
  pub refusal : Refusal
  pub verdict_is : v ≡ verdict.Refused refusal
  pub status_is : refusal_status refusal ≡ n

-- a verdict that is an end of this status
pub record IsEndedWith (v : Verdict) (n : ℕ) : Type 0 where
  pub finish : Finish
  pub stats : Option Stats
  pub verdict_is : v ≡ verdict.Ended finish stats
  pub status_is : finish_status finish ≡ n

-- a status of a refusal is that of a verdict that is one
pub refused_with : (v : Verdict) (n : ℕ) → status_of v ≡ n → status.is_refusal n ≡ true → IsRefusedWith v n
refused_with (verdict.Refused r) n h kind = record { refusal = r; verdict_is = refl; status_is = h }
refused_with (verdict.Ended f s) n h kind = absurd (let z = sym (finish_other f) ∙ ap status.is_refusal h ∙ kind in cc)
refused_with verdict.WriteFault n h kind = absurd (let z = ap status.is_refusal h ∙ kind in cc)
refused_with verdict.NoMemory n h kind = absurd (let z = ap status.is_refusal h ∙ kind in cc)

-- a status of an end is that of a verdict that is one
pub ended_with : (v : Verdict) (n : ℕ) → status_of v ≡ n → status.is_end n ≡ true → IsEndedWith v n
ended_with (verdict.Refused r) n h kind = absurd (let z = sym (refusal_other r) ∙ ap status.is_end h ∙ kind in cc)
ended_with (verdict.Ended f s) n h kind = record { finish = f; stats = s; verdict_is = refl; status_is = h }
ended_with verdict.WriteFault n h kind = absurd (let z = ap status.is_end h ∙ kind in cc)
ended_with verdict.NoMemory n h kind = absurd (let z = ap status.is_end h ∙ kind in cc)

-- a verdict that is an end by a line of a trace that differs
pub record IsDifferent (v : Verdict) : Type 0 where
  pub line : ℕ
  pub stats : Option Stats
  pub verdict_is : v ≡ verdict.Ended (finish.Differs line) stats

-- 13 is that of a refusal, or of a line that differs
pub evidence_with : (v : Verdict) → status_of v ≡ status.evidence → IsRefusedWith v status.evidence ⊎ IsDifferent v
evidence_with (verdict.Refused r) h = inl (record { refusal = r; verdict_is = refl; status_is = h })
evidence_with (verdict.Ended (finish.Differs line) stats) h = inr (record { line = line; stats = stats; verdict_is = refl })
evidence_with (verdict.Ended (finish.Run e) stats) h = absurd (let z = sym (end_no_evidence e) ∙ ap is_evidence h in cc)
evidence_with (verdict.Ended finish.Done stats) h = absurd (omega arith)
evidence_with verdict.WriteFault h = absurd (omega arith)
evidence_with verdict.NoMemory h = absurd (omega arith)

-- 10 is a failed writing alone
pub write_is : (v : Verdict) → status_of v ≡ status.write → v ≡ verdict.WriteFault
write_is (verdict.Refused r) h = absurd (let z = sym (refusal_no_write r) ∙ ap is_write h in cc)
write_is (verdict.Ended f s) h = absurd (let z = sym (finish_no_write f) ∙ ap is_write h in cc)
write_is verdict.WriteFault h = refl
write_is verdict.NoMemory h = absurd (omega arith)

-- 11 is out of memory alone
pub no_memory_is : (v : Verdict) → status_of v ≡ status.no_memory → v ≡ verdict.NoMemory
no_memory_is (verdict.Refused r) h = absurd (let z = sym (refusal_no_memory r) ∙ ap is_no_memory h in cc)
no_memory_is (verdict.Ended f s) h = absurd (let z = sym (finish_no_memory f) ∙ ap is_no_memory h in cc)
no_memory_is verdict.WriteFault h = absurd (omega arith)
no_memory_is verdict.NoMemory h = refl

-- 7 is a trap alone
pub trap_is : (e : RunEnd) → end_status e ≡ status.trap → (item : ℕ) × ((kind : TrapKind) × ((home : List ℕ) × (e ≡ end.Trapped item kind home)))
trap_is (end.Trapped item kind home) h = (item, (kind, (home, refl)))
trap_is (end.Stream close) h = absurd (let z = sym (ending_no_trap close) ∙ ap is_trap h in cc)
trap_is _ h = absurd (omega arith)

-- 0, 8 and 14 are each that of one ending of a stream
pub done_is : (e : Ending) → ending_status e ≡ status.done → e ≡ ending.End
done_is ending.End h = refl
done_is _ h = absurd (omega arith)

pub read_is : (e : Ending) → ending_status e ≡ status.read → e ≡ ending.ReadFault
read_is ending.ReadFault h = refl
read_is _ h = absurd (omega arith)

pub too_long_is : (e : Ending) → ending_status e ≡ status.too_long → e ≡ ending.TooLong
too_long_is ending.TooLong h = refl
too_long_is _ h = absurd (omega arith)
