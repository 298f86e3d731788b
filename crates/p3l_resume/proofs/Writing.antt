-- A snapshot whose numbers are in their ranges and whose lists have few items can be written: field by field.
use Rattle.std.proofs.Common.{◌≡◌, ℕ, ℤ, pos, negsuc, suc, ◌^◌, ◌<◌, ◌≤◌, Bool, true, false, leb, List, [], ◌∷◌, length, Option, None, Some, refl, arith}
use Rattle.std.specs.Prelude.{IfSome}
use Rattle.std.specs.List.{All, list_all}
use Rattle.std.specs.Int.{w64, cast_unsigned}
use Rattle.std.proofs.lemmas.Bool.{le-leb, lt-ltb, ltb-true}
use Rattle.p3l_base.specs.declared.outcome.Outcome.{Outcome}
use Rattle.p3l_base.specs.declared.outcome.Outcome.TheVariants.{Value, Trapped}
use Rattle.p3l_base.specs.declared.outcome.Trap.{Trap}
use Rattle.p3l_base.specs.declared.outcome.TrapKind.{TrapKind}
use Rattle.p3l_base.specs.declared.outcome.TrapKind.TheVariants.{DivZero, DivOver, Index, Shift, Budget, Turns}
use Rattle.p3l_format.specs.Format.{Format, after, as_form, coded, counted, nothing, pair, tagged, within}
use Rattle.p3l_format.specs.Numbers.{i64_format, is_byte, is_i64, is_in, number, one_of, u8_format, u32_format, u32_in, u64_format}
use Rattle.p3l_format.specs.laws.Parts.{both_true}
use Rattle.p3l_firing.specs.declared.shot.Own.{Own}
use Rattle.p3l_firing.specs.declared.shot.SavedToken.{SavedToken}
use Rattle.p3l_firing.specs.declared.shot.Shot.{Shot}
use Rattle.p3l_resume.specs.Ranges.{AreFew, AreInRange, HasFewItems, HasFewWords, HasRange, IsFew, IsInRange, IsShort, IsTag, IsWord, WhatHasFewItemsCanBeWritten}
use Rattle.p3l_resume.specs.Saved.{body_format, bytes_format, magic, saved_format, version}
use Rattle.p3l_resume.specs.Shot.{chans_format, own_format, owns_format, shot_format}
use Rattle.p3l_resume.specs.Token.{outcome_format, tags_format, token_format, tokens_format, trap_format, trap_kind_format, body_format as outcome_by}
use Rattle.p3l_resume.specs.Words.{count_format, flag_format, inbox_format, item_format, words_format}

u32_fits : (n : ℕ) → n < 2 ^ 32 → u32_format.fits n ≡ true
unfolding number
u32_fits n small = lt-ltb n (2 ^ 32) small

u64_fits : (n : ℕ) → n < 2 ^ 64 → u64_format.fits n ≡ true
unfolding number
u64_fits n small = lt-ltb n (2 ^ 64) small

in_range : (low high n : ℕ) → low ≤ n → n ≤ high → n < 2 ^ 32 → (u32_in low high).fits n ≡ true
unfolding within
in_range low high n above under small =
    both_true (u32_format.fits n) (is_in low high n) (u32_fits n small) (both_true (leb low n) (leb n high) (le-leb low n above) (le-leb n high under))

unsigned_small : (z : ℤ) → is_i64 z ≡ true → cast_unsigned w64 z < 2 ^ 64
unsigned_small (pos n) fits = let low = ltb-true n (2 ^ 63) fits in omega (arith, low)
unsigned_small (negsuc n) fits = let low = ltb-true n (2 ^ 63) fits in omega (arith, low)

word_fits : (z : ℤ) → is_i64 z ≡ true → i64_format.fits z ≡ true
unfolding as_form number
word_fits z fits = both_true (is_i64 z) (u64_format.fits (cast_unsigned w64 z)) fits (lt-ltb (cast_unsigned w64 z) (2 ^ 64) (unsigned_small z fits))

all_fit : {A : Type 0} (P : A → Type 0) (f : A → Bool) → ((x : A) → P x → f x ≡ true) → (xs : List A) → All P xs → list_all f xs ≡ true
all_fit P f each [] all = refl
all_fit P f each (x ∷ xs) all =
    both_true (f x) (list_all f xs) (each x (all 0 x (omega arith))) (all_fit P f each xs (λ k d inside. all (suc k) d (omega (arith, inside))))

-- a list of few items, each of which fits
list_fits : {A : Type 0} (item : Format ℕ A) (P : A → Type 0) → ((x : A) → P x → item.fits x ≡ true) → (xs : List A) → IsFew xs → All P xs →
    (counted count_format (λ _. item)).fits xs ≡ true
unfolding counted
list_fits item P each xs few all =
    both_true (count_format.fits (length xs)) (list_all item.fits xs) (in_range 0 4294967295 (length xs) (omega arith) (omega (arith, few)) few)
    (all_fit P item.fits each xs all)

words_fit : (words : List ℤ) → IsFew words → All IsWord words → words_format.fits words ≡ true
words_fit words few all = list_fits i64_format IsWord word_fits words few all

flag_fits : (flag : Bool) → flag_format.fits flag ≡ true
unfolding one_of coded u8_format
flag_fits false = refl
flag_fits true = refl

kind_fits : (kind : TrapKind) → trap_kind_format.fits kind ≡ true
unfolding one_of coded u8_format
kind_fits DivZero = refl
kind_fits DivOver = refl
kind_fits Index = refl
kind_fits Shift = refl
kind_fits Budget = refl
kind_fits Turns = refl

trap_fits : (trap : Trap) → trap.module < 2 ^ 32 → trap_format.fits trap ≡ true
unfolding trap_format as_form pair
trap_fits trap low =
    both_true (trap_kind_format.fits trap.kind) (u32_format.fits trap.module) (kind_fits trap.kind) (u32_fits trap.module low)

body_fits : (body : Outcome) → HasFewWords body → HasRange body → outcome_format.fits body ≡ true
unfolding outcome_format tagged outcome_by as_form
body_fits (Value words) few range =
    both_true (flag_format.fits false) (words_format.fits words) (flag_fits false) (words_fit words few range)
body_fits (Trapped trap) few range =
    both_true (flag_format.fits true) (trap_format.fits trap) (flag_fits true) (trap_fits trap range)

-- a token that is short and in its range
record Fits (token : SavedToken) : Type 0 where
  short : IsShort token
  range : IsInRange token

token_fits : (token : SavedToken) → Fits token → token_format.fits token ≡ true
unfolding token_format as_form pair
token_fits token fits =
    let short = fits.short in
    let range = fits.range in
    both_true (tags_format.fits token.tags) (outcome_format.fits token.body)
    (list_fits u64_format IsTag u64_fits token.tags short.tags range.tags) (body_fits token.body short.body range.body)

record AllFit (tokens : List SavedToken) : Type 0 where
  few : AreFew tokens
  range : AreInRange tokens

tokens_fit : (tokens : List SavedToken) → AllFit tokens → tokens_format.fits tokens ≡ true
tokens_fit tokens fits =
    let few = fits.few in
    let each = few.each in
    let range = fits.range in
    list_fits token_format Fits token_fits tokens few.count (λ k d inside. record { short = each k d inside; range = range k d inside })

record OwnFits (own : Own) : Type 0 where
  number : own.number < 2 ^ 64
  held : AllFit own.held

own_fits : (own : Own) → OwnFits own → own_format.fits own ≡ true
unfolding own_format as_form pair
own_fits own fits =
    let number = fits.number in
    both_true (u64_format.fits own.number) (tokens_format.fits own.held) (u64_fits own.number number) (tokens_fit own.held fits.held)

inbox_fits : (inbox : Option (List ℤ)) → IfSome inbox (λ (item : List ℤ). IsFew item) → IfSome inbox (All IsWord) → inbox_format.fits inbox ≡ true
unfolding inbox_format tagged item_format nothing as_form
inbox_fits None few range = both_true (flag_format.fits false) true (flag_fits false) refl
inbox_fits (Some words) few range = both_true (flag_format.fits true) (words_format.fits words) (flag_fits true) (words_fit words few range)

shot_fits : (shot : Shot) → HasFewItems shot → All AreInRange shot.chans → All (λ (own : Own). AreInRange own.held) shot.owns →
    IfSome shot.inbox (All IsWord) → shot_format.fits shot ≡ true
unfolding shot_format as_form pair
shot_fits shot few chans owns inbox =
    let numbers = few.numbers in
    let held = few.owns in
    let sent = few.chans in
    both_true (u64_format.fits shot.sent) _ (u64_fits shot.sent few.sent)
    (both_true (u64_format.fits shot.emitted) _ (u64_fits shot.emitted few.emitted)
    (both_true (inbox_format.fits shot.inbox) _ (inbox_fits shot.inbox few.inbox inbox)
    (both_true (owns_format.fits shot.owns) (chans_format.fits shot.chans)
    (list_fits own_format OwnFits own_fits shot.owns few.count_owns (λ k d inside. record {
      number = numbers k d inside;
      held = record { few = held k d inside; range = owns k d inside };
    }))
    (list_fits tokens_format AllFit tokens_fit shot.chans few.count_chans
    (λ k d inside. record { few = sent k d inside; range = chans k d inside })))))

byte_fits : (byte : ℕ) → is_byte byte ≡ true → u8_format.fits byte ≡ true
unfolding u8_format
byte_fits byte fits = fits

pub few_written : WhatHasFewItemsCanBeWritten
unfolding saved_format body_format after as_form pair
few_written saved ranges few image =
    both_true ((u32_in magic magic).fits magic) _ (in_range magic magic magic (omega arith) (omega arith) (omega arith))
    (both_true ((u32_in version version).fits version) _ (in_range version version version (omega arith) (omega arith) (omega arith))
    (both_true (shot_format.fits saved.shot) (bytes_format.fits saved.image)
    (shot_fits saved.shot few ranges.chans ranges.owns ranges.inbox)
    (list_fits u8_format (λ (byte : ℕ). is_byte byte ≡ true) byte_fits saved.image image ranges.image)))
