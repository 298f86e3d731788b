-- The format of snapshots.
use Rattle.std.specs.Prelude.{◌≡◌, ◌++◌, ℕ, List, [], true}
use Rattle.p3l_format.specs.Format.{Format, after, both, counted, record_of}
use Rattle.p3l_format.specs.Numbers.{u8_format, u32_in}
use Rattle.p3l_resume.specs.declared.saved.Saved.{Saved}
use Rattle.p3l_resume.specs.Shot.{shot_format}
use Rattle.p3l_resume.specs.Words.{count_format}

-- "P3LS"
abbrev pub magic : ℕ
magic = 1345539155

abbrev pub version : ℕ
version = 1

abbrev pub bytes_format : Format ℕ (List ℕ)
bytes_format = counted count_format (λ _. u8_format)

-- the format after the magic number and the version: the state of a machine, and the bytes of an image
unfoldable pub body_format : Format ℕ Saved
body_format = record_of (λ p. record { shot = p.0; image = p.1 }) (λ s. (s.shot, s.image)) (both shot_format bytes_format)

unfoldable pub saved_format : Format ℕ Saved
saved_format = after (u32_in magic magic) magic (after (u32_in version version) version body_format)

-- a snapshot can be written: each of its lists can be counted in 32 bits
abbrev pub CanBeWritten : Saved → Type 0
CanBeWritten saved = saved_format.fits saved ≡ true

-- the bytes of a snapshot
abbrev pub saved_text : Saved → List ℕ
saved_text saved = saved_format.spell saved

-- bytes spell a snapshot
pub record IsSpelling (saved : Saved) (bytes : List ℕ) : Type 0 where
  pub fits : CanBeWritten saved
  pub spelled : bytes ≡ saved_text saved

-- no spelling begins another
abbrev pub SnapshotBeginsNoOther : Type 0
SnapshotBeginsNoOther = (v w : Saved) (s t more : List ℕ) → IsSpelling v s → IsSpelling w t → s ++ more ≡ t → (v ≡ w) × (more ≡ [])
