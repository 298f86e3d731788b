-- Premises of the answers of `check-trace`.
use Rattle.std.proofs.Common.{◌≡◌, ℕ, true, List, refl, sym, ap, ◌∙◌}
use Rattle.p3l_opts.specs.declared.command.Build.{Build}
use Rattle.p3l_report.specs.Status as status
use Rattle.p3l_program.specs.Trace.{check_behavior}
use Rattle.p3l_program.proofs.EndSteps.{put_known}
use Rattle.p3l_program.proofs.Lawful.{Lawful}
use Rattle.p3l_program.proofs.TraceSteps.{check_same_faults, check_read, check_status, check_unstopped, check_whole, ends_check}

-- a status of evidence is none of an end
no_evidence : (k : ℕ) → status.is_end k ≡ true → k ≡ status.evidence → ⊥
no_evidence k kind is = (let z = sym (ap status.is_end is) ∙ kind in cc)

pub check_lawful : (build : Build) (name : List ℕ) → Lawful (check_behavior build name)
check_lawful build name = record {
  begun = λ w f stats e. ends_check w build name f stats e;
  whole = λ w rest taken f stats input out h e. check_whole w build name rest taken f stats (λ text put. put_known w.output taken text out put) input h e;
  status_expected = λ w rest f stats input faultless e. check_status w build name rest f stats input faultless e;
  read = λ w f stats e h. check_read w build name f stats e h;
  same_faults = λ w f stats e h. check_same_faults w build name f stats _ e refl (λ is. no_evidence _ h.0 is) h.3;
  stopped = λ w f stats e h. check_unstopped w build name f stats e h;
  writer = λ w h. absurd h;
  first_written = λ none. refl;
  reads_first = λ limit name after is. refl;
  touches = λ w some. tt;
  ran = λ w run f stats is e. absurd cc;
}
