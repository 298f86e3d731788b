-- Picks read one after another.
use Rattle.std.proofs.Common.{◌≡◌, ◌≢◌, ℕ, ◌+◌, ◌<◌, nat_lt, if◌then◌else◌, Bool, true, false, Option, Some, None, Result, List, [], ◌∷◌, ◌++◌, length, count_by, Ok, Err, refl, ap, arith, length-append}
use Rattle.p3l_sched.specs.declared.refusal.PickRefusal.{PickRefusal}
use Rattle.p3l_sched.specs.declared.refusal.PickRefusal.TheVariants as refusal
use Rattle.p3l_sched.specs.Picks.{AreRead, IsAtWord, IsWord, Reads, is_feed, number_of, pick_from, pick_of}

-- one pick more
pub read_more : (count line : ℕ) (text picks : List ℕ) (last : ℕ) (rest gap word after : List ℕ) (pick : ℕ) → AreRead count line text picks last rest
    → IsAtWord rest gap word after → pick_of count (last + count_by is_feed gap) word ≡ Ok pick → AreRead count line text (picks ++ pick ∷ []) (last + count_by is_feed gap) after
read_more count line text [] last rest gap word after pick was at is =
    rw was.0 (rw was.1 (gap, word, after, at, is, (refl, refl)))
read_more count line text (p ∷ picks) last rest gap word after pick was at is =
    (was.0, was.1, was.2, was.3, was.4, read_more count (line + count_by is_feed was.0) was.2 picks last rest gap word after pick was.5 at is)

-- a word has a byte
pub has_byte : (word : List ℕ) → IsWord word → word ≢ []
has_byte [] is e = is
has_byte (byte ∷ bytes) is e = cc

-- the text after a word is shorter, by the word at least
pub shorter : (rest gap word after : List ℕ) → IsAtWord rest gap word after → length gap + length after < length rest
shorter rest gap [] after at = absurd at.is_word
shorter rest gap (byte ∷ bytes) after at = omega (arith, ap length at.text_is, length-append gap ((byte ∷ bytes) ++ after), length-append (byte ∷ bytes) after)

-- no word is refused because memory ran out
never_wants : (count line : ℕ) (number : Option ℕ) → pick_from count line number ≡ Err refusal.NoMemory → ⊥
never_wants count line None is = cc
never_wants count line (Some pick) is = tested (nat_lt pick count) is
  where
    tested : (b : Bool) → ◌≡◌ {A = Result ℕ PickRefusal} (if b then Ok pick else Err (refusal.NoSuchProcess line pick count)) (Err refusal.NoMemory) → ⊥
    tested true is = cc
    tested false is = cc

-- the first word that is refused decides
pub refuses : (text : List ℕ) (count : ℕ) (picks : List ℕ) (line : ℕ) (rest gap word after : List ℕ) (e : PickRefusal) → AreRead count 1 text picks line rest
    → IsAtWord rest gap word after → pick_of count (line + count_by is_feed gap) word ≡ Err e → Reads text count (Err e)
refuses text count picks line rest gap word after refusal.NoMemory was at is = absurd (never_wants count (line + count_by is_feed gap) (number_of word) is)
refuses text count picks line rest gap word after (refusal.BadPick l) was at is =
    record { picks = picks; line = line; rest = rest; gap = gap; word = word; after = after; before = was; at = at; is_refused = is }
refuses text count picks line rest gap word after (refusal.NoSuchProcess l p n) was at is =
    record { picks = picks; line = line; rest = rest; gap = gap; word = word; after = after; before = was; at = at; is_refused = is }
