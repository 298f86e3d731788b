-- Snapshots are read as they are spelled.
use Rattle.std.proofs.Common.{refl}
use Rattle.p3l_format.specs.Lawful.{IsLawful}
use Rattle.p3l_format.specs.laws.Formats.{lawful_after, lawful_both, lawful_counted, lawful_record}
use Rattle.p3l_format.specs.laws.Numbers.{is_exact, lawful_u8, lawful_u32_in}
use Rattle.p3l_resume.specs.Saved.{body_format, bytes_format, magic, saved_format, version}
use Rattle.p3l_resume.specs.laws.Shot.{lawful_shot}
use Rattle.p3l_resume.specs.laws.Words.{lawful_count}

pub lawful_bytes : IsLawful bytes_format
lawful_bytes = lawful_counted _ _ lawful_count (λ _. lawful_u8)

pub lawful_body : IsLawful body_format
unfolding body_format
lawful_body = lawful_record _ _ _ (λ _. refl) (λ _. refl) (lawful_both _ _ lawful_shot lawful_bytes)

pub lawful_saved : IsLawful saved_format
unfolding saved_format
lawful_saved = lawful_after _ _ _ (is_exact magic) (lawful_u32_in magic magic)
    (lawful_after _ _ _ (is_exact version) (lawful_u32_in version version) lawful_body)
