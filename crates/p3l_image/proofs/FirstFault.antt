-- A refusal of bytes is at the first field that is at fault.
use Rattle.std.proofs.Common.{◌≡◌, ℕ, ◌+◌, ◌-◌, Bool, true, false, cond, eqb, List, [], ◌∷◌, ◌++◌, length, Result, Ok, Err, refl, sym, ap, subst, ◌∙◌, arith}
use Rattle.std.proofs.lemmas.Bool.{eqb-true}
use Rattle.std.proofs.lemmas.List.{length-append}
use Rattle.p3l_format.specs.declared.fault.Cause.{Cause}
use Rattle.p3l_format.specs.declared.fault.Cause.TheVariants.{Short, Range, More}
use Rattle.p3l_format.specs.declared.fault.FieldFault.{FieldFault}
use Rattle.p3l_format.specs.Format.{fault_at, ◌>>=◌}
use Rattle.p3l_format.specs.Places.{Piece, texts}
use Rattle.p3l_tree_format.specs.declared.version.Version.{Version}
use Rattle.p3l_image.specs.declared.image.Image.{Image}
use Rattle.p3l_image.specs.declared.image.ImageRefusal.{ImageRefusal}
use Rattle.p3l_image.specs.declared.image.ImageRefusal.TheVariants as refusals
use Rattle.p3l_image.specs.Image.{image_format, image_in}
use Rattle.p3l_image.specs.Places.{image_fields, IsAtFirstFault, IsRefusedAt, IsShortAt}
use Rattle.p3l_image.specs.Refusal.{Answers, answer_of, refusal_at, refusal_of, version_at}
use Rattle.p3l_image.specs.laws.Places.{placed_image}

-- a field that is out of its range, or a magic number or a version
range_at : (bytes : List ℕ) (n place : ℕ) (zero four : Bool) → n ≡ place → eqb n 0 ≡ zero → eqb n 4 ≡ four
    → IsRefusedAt place (Err (cond zero refusals.BadMagic (cond four (refusals.Version (version_at bytes)) (refusals.BadField n))))
range_at bytes n place true four is zero_is four_is = sym is ∙ eqb-true n 0 zero_is
range_at bytes n place false true is zero_is four_is = sym is ∙ eqb-true n 4 four_is
range_at bytes n place false false is zero_is four_is = is

refused_at : (bytes : List ℕ) (cause : Cause) (n place : ℕ) → n ≡ place → IsRefusedAt place (Err (refusal_at bytes cause n))
refused_at bytes Short n place is = is
refused_at bytes More n place is = is
refused_at bytes Range n place is = range_at bytes n place (eqb n 0) (eqb n 4) is refl refl

-- a reading that fails in an image's format fails for the whole
fails_whole : (bytes : List ℕ) (fault : FieldFault) → image_format.read bytes ≡ Err fault → image_in bytes ≡ Err fault
fails_whole bytes fault is = rw is refl

-- the answer if reading fails with this many bytes left
answered_at : (bytes : List ℕ) (answer : Result Image ImageRefusal) (fault : FieldFault) (place : ℕ) → Answers bytes answer (Err fault) → length bytes - fault.left ≡ place → IsRefusedAt place answer
answered_at bytes (Ok image) fault place is at = absurd cc
answered_at bytes (Err refusals.NoMemory) fault place is at = is
answered_at bytes (Err refusals.BadMagic) fault place is at = subst (IsRefusedAt place) (sym is) (refused_at bytes fault.cause (length bytes - fault.left) place at)
answered_at bytes (Err (refusals.Version n)) fault place is at = subst (IsRefusedAt place) (sym is) (refused_at bytes fault.cause (length bytes - fault.left) place at)
answered_at bytes (Err (refusals.Short n)) fault place is at = subst (IsRefusedAt place) (sym is) (refused_at bytes fault.cause (length bytes - fault.left) place at)
answered_at bytes (Err (refusals.BadField n)) fault place is at = subst (IsRefusedAt place) (sym is) (refused_at bytes fault.cause (length bytes - fault.left) place at)
answered_at bytes (Err (refusals.TrailingBytes n)) fault place is at = subst (IsRefusedAt place) (sym is) (refused_at bytes fault.cause (length bytes - fault.left) place at)

short_at : (bytes rest : List ℕ) (answer : Result Image ImageRefusal) (place : ℕ) → Answers bytes answer (Err (fault_at Short rest)) → length bytes - length rest ≡ place → IsShortAt place answer
short_at bytes rest (Ok image) place is at = absurd cc
short_at bytes rest (Err refusals.NoMemory) place is at = is
short_at bytes rest (Err (refusals.Short n)) place is at = (let same : n ≡ length bytes - length rest = cc in same ∙ at)
short_at bytes rest (Err refusals.BadMagic) place is at = absurd cc
short_at bytes rest (Err (refusals.Version n)) place is at = absurd cc
short_at bytes rest (Err (refusals.BadField n)) place is at = absurd cc
short_at bytes rest (Err (refusals.TrailingBytes n)) place is at = absurd cc

-- the bytes before the rest
before_rest : (bytes : List ℕ) (fs : List Piece) (rest : List ℕ) (left : ℕ) → bytes ≡ texts fs ++ rest → left ≡ length rest → length bytes - left ≡ length (texts fs)
before_rest bytes fs rest left is at =
    let len : length bytes ≡ length (texts fs ++ rest) = ap length is in
    omega (arith, length-append (texts fs) rest)

pub at_first : (bytes : List ℕ) (answer : Result Image ImageRefusal) → Answers bytes answer (image_in bytes) → IsAtFirstFault bytes answer
unfolding image_fields
at_first bytes answer answers = record {
  next = λ image fs more f rest fits has is none.
      let n = placed_image.next image fs more f rest fits has none in
      let fails = fails_whole bytes n.fault (ap image_format.read is ∙ n.refused) in
      answered_at bytes answer n.fault (length (texts fs)) (subst (Answers bytes answer) fails answers) (before_rest bytes fs rest n.fault.left is n.place);
  cut = λ image fs more f rest fits has is off.
      let fails = fails_whole bytes (fault_at Short rest) (ap image_format.read is ∙ placed_image.cut image fs more f rest fits has off) in
      short_at bytes rest answer (length (texts fs)) (subst (Answers bytes answer) fails answers) (before_rest bytes fs rest (length rest) is refl);
}

-- no refusal of a fault says that memory ran out
range_known : (bytes : List ℕ) (n : ℕ) (zero four : Bool) → cond zero refusals.BadMagic (cond four (refusals.Version (version_at bytes)) (refusals.BadField n)) ≡ refusals.NoMemory → ⊥
range_known bytes n true four is = cc
range_known bytes n false true is = cc
range_known bytes n false false is = cc

refusal_known : (bytes : List ℕ) (cause : Cause) (n : ℕ) → refusal_at bytes cause n ≡ refusals.NoMemory → ⊥
refusal_known bytes Short n is = cc
refusal_known bytes More n is = cc
refusal_known bytes Range n is = range_known bytes n (eqb n 0) (eqb n 4) is

known_answer : (bytes : List ℕ) (refusal : ImageRefusal) (read : Result Image FieldFault) → (refusal ≡ refusals.NoMemory → ⊥) → Err refusal ≡ answer_of bytes read → Answers bytes (Err refusal) read
known_answer bytes refusals.NoMemory read known is = absurd (known refl)
known_answer bytes refusals.BadMagic read known is = is
known_answer bytes (refusals.Version n) read known is = is
known_answer bytes (refusals.Short n) read known is = is
known_answer bytes (refusals.BadField n) read known is = is
known_answer bytes (refusals.TrailingBytes n) read known is = is

-- the refusal of a fault is at the first one
pub refusal_at_first : (bytes : List ℕ) (fault : FieldFault) (refusal : ImageRefusal) → image_in bytes ≡ Err fault → refusal ≡ refusal_of bytes fault → IsAtFirstFault bytes (Err refusal)
refusal_at_first bytes fault refusal fails is =
    at_first bytes (Err refusal)
    (known_answer bytes refusal (image_in bytes) (λ memory. refusal_known bytes fault.cause (length bytes - fault.left) (sym is ∙ memory)) (ap (λ (r : ImageRefusal). Err r) is ∙ ap (answer_of bytes) (sym fails)))
