-- Saved states of machines are read as they are spelled.
use Rattle.std.proofs.Common.{refl}
use Rattle.p3l_format.specs.Lawful.{IsLawful}
use Rattle.p3l_format.specs.laws.Formats.{lawful_both, lawful_counted, lawful_record}
use Rattle.p3l_format.specs.laws.Numbers.{lawful_u64}
use Rattle.p3l_resume.specs.Shot.{chans_format, own_format, owns_format, shot_format}
use Rattle.p3l_resume.specs.laws.Token.{lawful_tokens}
use Rattle.p3l_resume.specs.laws.Words.{lawful_count, lawful_inbox}

pub lawful_own : IsLawful own_format
unfolding own_format
lawful_own = lawful_record _ _ _ (λ _. refl) (λ _. refl) (lawful_both _ _ lawful_u64 lawful_tokens)

pub lawful_owns : IsLawful owns_format
lawful_owns = lawful_counted _ _ lawful_count (λ _. lawful_own)

pub lawful_chans : IsLawful chans_format
lawful_chans = lawful_counted _ _ lawful_count (λ _. lawful_tokens)

pub lawful_shot : IsLawful shot_format
unfolding shot_format
lawful_shot = lawful_record _ _ _ (λ _. refl) (λ _. refl)
    (lawful_both _ _ lawful_u64 (lawful_both _ _ lawful_u64 (lawful_both _ _ lawful_inbox (lawful_both _ _ lawful_owns lawful_chans))))
