-- Premises of the answers of `profile`.
use Rattle.std.proofs.Common.{ℕ, List, refl}
use Rattle.p3l_program.specs.Profile.{profile_behavior}
use Rattle.p3l_program.proofs.EndSteps.{put_known}
use Rattle.p3l_program.proofs.Lawful.{Lawful}
use Rattle.p3l_program.proofs.ProfileSteps.{ends_profile, profile_same_faults, profile_read, profile_status_expected, profile_unstopped, profile_whole}

pub profile_lawful : (name : List ℕ) → Lawful (profile_behavior name)
profile_lawful name = record {
  begun = λ w f stats e. ends_profile w name f stats e;
  whole = λ w rest taken f stats input out h e. profile_whole w name rest taken f stats (λ text put. put_known w.output taken text out put) input h e;
  status_expected = λ w rest f stats input faultless e. profile_status_expected w name rest f stats input faultless e;
  read = λ w f stats e h. profile_read w name f stats e h;
  same_faults = λ w f stats e h. profile_same_faults w name f stats e h.2 h.3;
  stopped = λ w f stats e h. profile_unstopped w name f stats e h;
  writer = λ w h. absurd h;
  first_written = λ none. refl;
  reads_first = λ limit before after is. refl;
  touches = λ w some. tt;
  ran = λ w run f stats is e. absurd cc;
}
