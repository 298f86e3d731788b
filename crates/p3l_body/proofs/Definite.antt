-- Rules alone never run out of memory: their refusals are faults.
use Rattle.std.proofs.Common.{◌≡◌, Bool, true, false, List, [], ◌∷◌, map, Option, Some, None, Result, Ok, Err, IsErrAnd, ◌&&◌, not, refl, sym, subst}
use Rattle.std.specs.Prelude.{◌==◌, nat_lt}
use Rattle.p3l_ast.specs.declared.position.Pos.{Pos}
use Rattle.p3l_ast.specs.declared.refusal.Fault.{Fault}
use Rattle.p3l_ast.specs.declared.refusal.Fault.TheVariants.{Undeclared, WriteToIn, NotArray, IsArray}
use Rattle.p3l_ast.specs.declared.refusal.SourceRefusal.{SourceRefusal}
use Rattle.p3l_ast.specs.declared.refusal.SourceRefusal.TheVariants.{At, NoMemory}
use Rattle.p3l_types.specs.Verdict.{Verdict, Gives, broken_if, given, first_of}
use Rattle.p3l_types.specs.Constants.{Constants}
use Rattle.p3l_body.specs.declared.scope.Known.{Known}
use Rattle.p3l_body.specs.Scope.{Names, known_of}
use Rattle.p3l_body.specs.Mention.{Mention, mention_rule, mentions_rule}

abbrev pub IsFault : SourceRefusal → Type 0
IsFault (At fault pos) = Unit {0}
IsFault NoMemory = ⊥

-- a value, or a fault
pub record IsDefinite {A : Type 0} (r : Result A SourceRefusal) : Type 0 where
  pub fault : (refusal : SourceRefusal) → r ≡ Err refusal → IsFault refusal

pub ok_definite : {A : Type 0} (x : A) → IsDefinite {A = A} (Ok x)
ok_definite x = record { fault = λ refusal e. absurd cc }

pub err_definite : {A : Type 0} (q : SourceRefusal) → IsFault q → IsDefinite {A = A} (Err q)
err_definite q is = record { fault = λ refusal e. let same : q ≡ refusal = cc in subst IsFault same is }

pub at_definite : {A : Type 0} (fault : Fault) (pos : Pos) → IsDefinite {A = A} (Err (At fault pos))
at_definite fault pos = err_definite (At fault pos) tt

pub broken_definite : (b : Bool) (fault : Fault) (pos : Pos) → IsDefinite (broken_if b fault pos)
broken_definite true fault pos = at_definite fault pos
broken_definite false fault pos = ok_definite tt

pub given_definite : {A B : Type 0} (r : Result A SourceRefusal) (go : A → Result B SourceRefusal) → IsDefinite r → ((x : A) → IsDefinite (go x)) → IsDefinite (given r go)
given_definite (Ok x) go here later = later x
given_definite (Err q) go here later = err_definite q (here.fault q refl)

pub next_definite : (v : Verdict) (rules : List Verdict) → IsDefinite v → IsDefinite (first_of rules) → IsDefinite (first_of (v ∷ rules))
next_definite (Ok x) rules here later = later
next_definite (Err q) rules here later = err_definite q (here.fault q refl)

mention_definite : (known : Option Known) (m : Mention) → IsDefinite (mention_rule known m)
mention_definite None m = at_definite Undeclared m.at.pos
mention_definite (Some known) m =
    let fixed : Verdict = broken_if (m.is_assigned && known.is_fixed) WriteToIn m.at.pos in
    let scalar : Verdict = broken_if (known.sizes == 0 && nat_lt 0 m.brackets) NotArray m.at.pos in
    let array : Verdict = broken_if (nat_lt 0 known.sizes && not (known.sizes == m.brackets)) IsArray m.at.pos in
    let last : IsDefinite (first_of (array ∷ [])) = next_definite array [] (broken_definite (nat_lt 0 known.sizes && not (known.sizes == m.brackets)) IsArray m.at.pos) (ok_definite tt) in
    let rest : IsDefinite (first_of (scalar ∷ (array ∷ []))) = next_definite scalar (array ∷ []) (broken_definite (known.sizes == 0 && nat_lt 0 m.brackets) NotArray m.at.pos) last in
    next_definite fixed (scalar ∷ (array ∷ [])) (broken_definite (m.is_assigned && known.is_fixed) WriteToIn m.at.pos) rest

pub mentions_definite : (constants : Constants) (names : Names) (ms : List Mention) → IsDefinite (mentions_rule constants names ms)
unfolding mentions_rule
mentions_definite constants names [] = ok_definite tt
mentions_definite constants names (m ∷ ms) =
    next_definite (mention_rule (known_of constants names m.at.name) m)
    (map (λ (n : Mention). mention_rule (known_of constants names n.at.name) n) ms) (mention_definite (known_of constants names m.at.name) m) (mentions_definite constants names ms)

-- a refusal that is handed on is a fault
pub handed_on : {A B : Type 0} (answer : Result A SourceRefusal) (refusal : SourceRefusal) (rule : Result B SourceRefusal) (meant : Result A SourceRefusal) →
    IsErrAnd answer (λ e. e ≡ refusal) → IsDefinite rule → Err refusal ≡ rule → meant ≡ Err refusal → Gives answer meant
handed_on (Ok x) refusal rule meant is definite same means = absurd is
handed_on {A} (Err e) refusal rule meant is definite same means =
    subst (λ (q : SourceRefusal). Gives {A = A} (Err q) meant) (sym is) (known refusal (definite.fault refusal (sym same)) means)
  where
    known : (q : SourceRefusal) → IsFault q → meant ≡ Err q → Gives {A = A} (Err q) meant
    known NoMemory d m = absurd d
    known (At fault pos) d m = m
