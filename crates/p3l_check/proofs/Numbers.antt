-- Numbers of modules by their names.
use Rattle.std.proofs.Common.{◌≡◌, ℕ, ◌+◌, ◌<◌, ◌^◌, Bool, true, false, cond, List, [], ◌∷◌, ◌++◌, length, Option, Some, IfSome, refl, ap, sym, ◌∙◌, subst, arith, length-append}
use Rattle.std.specs.Prelude.{bytes_eq}
use Rattle.std.specs.Map.{lookup}
use Rattle.p3l_skel.specs.declared.tree.ModuleInfo.{ModuleInfo}
use Rattle.p3l_check.specs.declared.callables.Callable.{Callable}
use Rattle.p3l_body.specs.declared.ports.Ports.{Ports}
use Rattle.p3l_check.specs.declared.defined.Defined.{Defined}
use Rattle.p3l_check.specs.Modules.{numbered}
use Rattle.p3l_check.specs.Numbered.{AreNumbered}

pub numbered-more : (k : ℕ) (infos : List ModuleInfo) (info : ModuleInfo) → numbered k (infos ++ info ∷ []) ≡ numbered k infos ++ (info.name, k + length infos) ∷ []
numbered-more k [] info = let e : k + 0 ≡ k = omega arith in rw e refl
numbered-more k (i ∷ infos) info =
    let e : (k + 1) + length infos ≡ k + length (i ∷ infos) = omega arith in
    ap (λ r. (i.name, k) ∷ r) (numbered-more (k + 1) infos info ∙ ap (λ n. numbered (k + 1) infos ++ (info.name, n) ∷ []) e)

-- one module more after those before it
pub numbered-after : (infos : List ModuleInfo) (info : ModuleInfo) (n : ℕ) → n ≡ length infos → numbered 0 infos ++ (info.name, n) ∷ [] ≡ numbered 0 (infos ++ info ∷ [])
numbered-after infos info n e =
    let zero_more : n ≡ 0 + length infos = omega arith in
    ap (λ m. numbered 0 infos ++ (info.name, m) ∷ []) zero_more ∙ sym (numbered-more 0 infos info)

-- a list that keeps as long as another, each with one item more
same-longer : {A B : Type 0} (xs : List A) (ys : List B) (x : A) (y : B) → length xs ≡ length ys → length (xs ++ x ∷ []) ≡ length (ys ++ y ∷ [])
same-longer xs ys x y same = length-append xs (x ∷ []) ∙ (ap (λ n. n + 1) same ∙ sym (length-append ys (y ∷ [])))

-- the numbers of modules, and that of one more
pub are-numbered-after : (numbers numbers' : List (List ℕ × ℕ)) (infos infos' : List ModuleInfo) (ports ports' : List Ports) (callables callables' : List Callable) (d : Defined) (n : ℕ) →
    AreNumbered numbers infos ports callables → n ≡ length infos → length infos + 1 < 2 ^ 32 → numbers' ≡ numbers ++ (d.info.name, n) ∷ [] →
    infos' ≡ infos ++ d.info ∷ [] → ports' ≡ ports ++ d.ports ∷ [] → callables' ≡ callables ++ d.callables ∷ [] → AreNumbered numbers' infos' ports' callables'
are-numbered-after numbers numbers' infos infos' ports ports' callables callables' d n are next few number info port wire =
    rw (info, port, wire) (record {
      numbers_are = number ∙ (ap (λ ns. ns ++ (d.info.name, n) ∷ []) are.numbers_are ∙ numbered-after infos d.info n next);
      ported = same-longer ports infos d.ports d.info are.ported;
      wirings = same-longer callables infos d.callables d.info are.wirings;
      few = omega (arith, few, length-append infos (d.info ∷ []));
    })

found_first : (P : ℕ → Type 0) (b : Bool) (k : ℕ) (r : Option ℕ) → P k → IfSome r P → IfSome (cond b (Some k) r) P
found_first P true k r here later = here
found_first P false k r here later = later

-- a number that a name has is one of theirs
pub number-within : (name : List ℕ) (k : ℕ) (infos : List ModuleInfo) → IfSome (lookup (bytes_eq name) (numbered k infos)) (λ n. n < k + length infos)
number-within name k [] = tt
number-within name k (i ∷ infos) =
    let e : (k + 1) + length infos ≡ k + length (i ∷ infos) = omega arith in
    found_first (λ n. n < k + length (i ∷ infos)) (bytes_eq name i.name) k (lookup (bytes_eq name) (numbered (k + 1) infos)) (omega arith)
    (subst (λ m. IfSome (lookup (bytes_eq name) (numbered (k + 1) infos)) (λ n. n < m)) e (number-within name (k + 1) infos))

pub number-below : (name : List ℕ) (infos : List ModuleInfo) (n : ℕ) → n ≡ length infos → IfSome (lookup (bytes_eq name) (numbered 0 infos)) (λ k. k < n)
number-below name infos n e =
    let all : 0 + length infos ≡ n = omega arith in
    subst (λ m. IfSome (lookup (bytes_eq name) (numbered 0 infos)) (λ k. k < m)) all (number-within name 0 infos)
