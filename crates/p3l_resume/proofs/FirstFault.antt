-- A refusal of bytes is at the first field that is at fault.
use Rattle.std.proofs.Common.{◌≡◌, ℕ, ◌-◌, List, ◌∷◌, ◌++◌, length, Result, Ok, Err, refl, sym, ap, subst, ◌∙◌, arith}
use Rattle.std.proofs.lemmas.List.{length-append}
use Rattle.p3l_format.specs.declared.fault.Cause.TheVariants.{Short}
use Rattle.p3l_format.specs.declared.fault.FieldFault.{FieldFault}
use Rattle.p3l_format.specs.Format.{fault_at, read_all}
use Rattle.p3l_format.specs.Places.{Piece, texts}
use Rattle.p3l_resume.specs.declared.saved.Saved.{Saved}
use Rattle.p3l_resume.specs.declared.saved.ShotRefusal.{ShotRefusal}
use Rattle.p3l_resume.specs.declared.saved.ShotRefusal.TheVariants as refusals
use Rattle.p3l_resume.specs.Places.{saved_fields, IsAtFirstFault, IsRefusedAt}
use Rattle.p3l_resume.specs.Refusal.{Answers, refusal_of}
use Rattle.p3l_resume.specs.Saved.{saved_format}
use Rattle.p3l_resume.specs.laws.Places.{placed_saved}

-- a reading that fails in a snapshot's format fails for the whole
fails_whole : (bytes : List ℕ) (fault : FieldFault) → saved_format.read bytes ≡ Err fault → read_all saved_format bytes ≡ Err fault
fails_whole bytes fault is = rw is refl

-- the answer where reading fails with this many bytes left
answered_at : (bytes : List ℕ) (answer : Result Saved ShotRefusal) (fault : FieldFault) (place : ℕ) → Answers bytes answer (Err fault) → length bytes - fault.left ≡ place → IsRefusedAt place answer
answered_at bytes (Ok saved) fault place is at = absurd cc
answered_at bytes (Err refusals.NoMemory) fault place is at = is
answered_at bytes (Err (refusals.BadShot n)) fault place is at = (let same : n ≡ length bytes - fault.left = cc in same ∙ at)

-- the bytes before the rest
before_rest : (bytes : List ℕ) (fs : List Piece) (rest : List ℕ) (left : ℕ) → bytes ≡ texts fs ++ rest → left ≡ length rest → length bytes - left ≡ length (texts fs)
before_rest bytes fs rest left is at =
    let len : length bytes ≡ length (texts fs ++ rest) = ap length is in
    omega (arith, length-append (texts fs) rest)

pub at_first : (bytes : List ℕ) (answer : Result Saved ShotRefusal) → Answers bytes answer (read_all saved_format bytes) → IsAtFirstFault bytes answer
unfolding saved_fields
at_first bytes answer answers = record {
  next = λ saved fs more f rest fits has is none.
      let n = placed_saved.next saved fs more f rest fits has none in
      let fails = fails_whole bytes n.fault (ap saved_format.read is ∙ n.refused) in
      answered_at bytes answer n.fault (length (texts fs)) (subst (Answers bytes answer) fails answers) (before_rest bytes fs rest n.fault.left is n.place);
  cut = λ saved fs more f rest fits has is off.
      let fails = fails_whole bytes (fault_at Short rest) (ap saved_format.read is ∙ placed_saved.cut saved fs more f rest fits has off) in
      answered_at bytes answer (fault_at Short rest) (length (texts fs)) (subst (Answers bytes answer) fails answers) (before_rest bytes fs rest (length rest) is refl);
}

-- the refusal of a fault is at the first one
pub refusal_at_first : (bytes : List ℕ) (fault : FieldFault) (refusal : ShotRefusal) → read_all saved_format bytes ≡ Err fault → refusal ≡ refusal_of bytes fault → IsAtFirstFault bytes (Err refusal)
refusal_at_first bytes fault refusal fails is =
    subst (λ (r : ShotRefusal). IsAtFirstFault bytes (Err r)) (sym is) (at_first bytes (Err (refusal_of bytes fault)) (rw fails refl))
