-- Several files that are written one after another.
use Rattle.std.proofs.Common.{◌≡◌, ℕ, List, [], ◌∷◌, ◌++◌, Option, Some, None, refl, sym, ap, subst, inl, inr, ◌∙◌, codes, get_or, arith}
use Rattle.std.specs.declared.result.Result.{Result}
use Rattle.std.specs.declared.result.Result.TheVariants.{Ok, Err}
use Rattle.p3l_io.specs.Change.{Change, Observation, Rose, change}
use Rattle.p3l_io.specs.Content.{Held}
use Rattle.p3l_report.specs.declared.verdict.Verdict.{Verdict}
use Rattle.p3l_report.specs.declared.verdict.Verdict.TheVariants as verdict
use Rattle.p3l_program.specs.Saved.{AreSaved, HasSave, HasSaves, HoldsBut, IsOther, IsSaved, KeepsBut, SaveCause, SavesCause, Stands, names_of}

-- files that keep others hold what they held under them
kept_holds : (files : Change Held) (names : List (List ℕ)) → KeepsBut files names → (held : Held) → files.old.content ≡ Some held → HoldsBut held files.new.content names
kept_holds files [] kept held known = subst (λ f. HoldsBut held f []) (sym (kept ∙ known)) (λ other out. refl)
kept_holds files (name ∷ names) kept held known = kept held known

-- whatever names come after one
holds_wider : (held : Held) (new : Option Held) (name : List ℕ) (names : List (List ℕ)) → HoldsBut held new (name ∷ []) → HoldsBut held new (name ∷ names)
holds_wider held None name names h = absurd h
holds_wider held (Some new) name names h = λ other out. h other (out.0, tt)

-- one file is written, and then others are
holds_then : (held : Held) (mid new : Option Held) (name : List ℕ) (names : List (List ℕ)) → HoldsBut held mid (name ∷ []) → ((h : Held) → mid ≡ Some h → HoldsBut h new names) → HoldsBut held new (name ∷ names)
holds_then held None new name names one more = absurd one
holds_then held (Some h) None name names one more = absurd (more h refl)
holds_then held (Some h) (Some k) name names one more = λ other out. more h refl other out.1 ∙ one other (out.0, tt)

stands_then : (mid new : Option Held) (name bytes : List ℕ) (names : List (List ℕ)) → Stands mid name bytes → ((h : Held) → mid ≡ Some h → HoldsBut h new names) → IsOther name names → Stands new name bytes
stands_then None new name bytes names one more other = absurd one
stands_then (Some h) None name bytes names one more other = absurd (more h refl)
stands_then (Some h) (Some k) name bytes names one more other = more h refl name other ∙ one

module _ (old mid new : Observation Held) where
  abbrev first : Change Held
  first = change old mid

  abbrev second : Change Held
  second = change mid new

  abbrev both : Change Held
  both = change old new

  saved_after : (written name bytes : List ℕ) → KeepsBut first (written ∷ []) → IsSaved second name bytes → IsSaved both name bytes
  saved_after written name bytes kept saved = λ held known. by held mid.content refl (kept held known)
    where
      by : (held : Held) (m : Option Held) → mid.content ≡ m → HoldsBut held m (written ∷ []) → Stands new.content name bytes
      by held None is k = absurd k
      by held (Some h) is k = saved h is

  all_after : (written : List ℕ) (saves : List (List ℕ × List ℕ)) → KeepsBut first (written ∷ []) → AreSaved second saves → AreSaved both saves
  all_after written [] kept saved = tt
  all_after written (save ∷ saves) kept saved = (saved_after written save.0 save.1 kept saved.0, all_after written saves kept saved.1)

  module _ (name bytes : List ℕ) (saves : List (List ℕ × List ℕ)) (other : IsOther name (names_of saves)) (one : HasSave first name bytes (Ok tt)) where
    kept_then : KeepsBut second (names_of saves) → KeepsBut both (name ∷ names_of saves)
    kept_then kept = λ held known. holds_then held mid.content new.content name (names_of saves) (one.kept held known) (kept_holds second (names_of saves) kept)

    cause_then : (result : Result (Unit {0}) Verdict) → KeepsBut second (names_of saves) → SavesCause second saves result → SavesCause both ((name, bytes) ∷ saves) result
    cause_then (Ok done) kept by = (
      (λ held known. stands_then mid.content new.content name bytes (names_of saves) (one.by.0 held known) (kept_holds second (names_of saves) kept) other, all_after name saves one.kept by.0),
      by.1 ∙ one.by.1,
    )
    cause_then (Err verdict.WriteFault) kept by = (
      λ none. absurd cc,
      record { name = by.1.name; one = inr by.1.one; failed = (subst (λ n. Rose n new.faults) one.by.1 by.1.failed.0, by.1.failed.1) },
    )
    cause_then (Err verdict.NoMemory) kept by = by ∙ one.by.1
    cause_then (Err (verdict.Refused r)) kept by = absurd by
    cause_then (Err (verdict.Ended f stats)) kept by = absurd by

    pub saves_then : (result : Result (Unit {0}) Verdict) → HasSaves second saves result → HasSaves both ((name, bytes) ∷ saves) result
    saves_then result h = record { kept = kept_then h.kept; by = cause_then result h.kept h.by }

module _ (files : Change Held) (name bytes : List ℕ) (saves : List (List ℕ × List ℕ)) where
  -- the first could not be written
  cause_of : (v : Verdict) → SaveCause files name bytes (Err v) → SavesCause files ((name, bytes) ∷ saves) (Err v)
  cause_of verdict.WriteFault h = (λ none. absurd cc, record { name = name; one = inl refl; failed = h })
  cause_of verdict.NoMemory h = h
  cause_of (verdict.Refused r) h = absurd h
  cause_of (verdict.Ended f stats) h = absurd h

  pub saves_failed : (v : Verdict) → HasSave files name bytes (Err v) → HasSaves files ((name, bytes) ∷ saves) (Err v)
  saves_failed v h = record { kept = λ held known. holds_wider held files.new.content name (names_of saves) (h.kept held known); by = cause_of v h.by }

-- the last, whether it was written or not
last_cause : (files : Change Held) (name bytes : List ℕ) (result : Result (Unit {0}) Verdict) → SaveCause files name bytes result → SavesCause files ((name, bytes) ∷ []) result
last_cause files name bytes (Ok done) h = ((h.0, tt), h.1)
last_cause files name bytes (Err v) h = cause_of files name bytes [] v h

pub saves_last : (files : Change Held) (name bytes : List ℕ) (result : Result (Unit {0}) Verdict) → HasSave files name bytes result → HasSaves files ((name, bytes) ∷ []) result
saves_last files name bytes result h = record { kept = h.kept; by = last_cause files name bytes result h.by }

-- the names of the three differ
separated : (prefix one two : List ℕ) → (one ≡ two → ⊥) → prefix ++ one ≡ prefix ++ two → ⊥
separated [] one two other same = other same
separated (byte ∷ bytes) one two other same = separated bytes one two other (let tails : bytes ++ one ≡ bytes ++ two = cc in tails)

pub program_separated : (prefix : List ℕ) → IsOther (prefix ++ codes ".p3l") ((prefix ++ codes ".toml") ∷ ((prefix ++ codes ".txt") ∷ []))
program_separated prefix = (
  separated prefix (codes ".p3l") (codes ".toml") (λ e. let second : 112 ≡ 116 = ap (λ (s : List ℕ). get_or s 1 0) e in absurd (omega arith)),
  (separated prefix (codes ".p3l") (codes ".txt") (λ e. let second : 112 ≡ 116 = ap (λ (s : List ℕ). get_or s 1 0) e in absurd (omega arith)), tt),
)

pub costs_separated : (prefix : List ℕ) → IsOther (prefix ++ codes ".toml") ((prefix ++ codes ".txt") ∷ [])
costs_separated prefix = (separated prefix (codes ".toml") (codes ".txt") (λ e. let third : 111 ≡ 120 = ap (λ (s : List ℕ). get_or s 2 0) e in absurd (omega arith)), tt)
