use Rattle.std.proofs.Common.{◌≡◌, ℕ, suc, ◌+◌, ◌<◌, ◌≤◌, List, [], ◌∷◌, ◌++◌, length, take, get_or, Option, Some, None, refl, sym, ap, ◌∙◌, subst, arith, IsSome, IfSome}
use Rattle.std.specs.Prelude.{slice_get, IsSomeAnd}
use Rattle.std.specs.List.{All}
use Rattle.std.proofs.Math.Seq.{take-suc}
use Rattle.std.proofs.lemmas.List.{take_all}
use Rattle.std.proofs.lemmas.List.Elements.{All-push}
use Rattle.std.proofs.lemmas.Option.{slice_get_read}
use Rattle.p3l_code.specs.declared.instr.Code.{Code}
use Rattle.p3l_code.specs.Safe.{IsSafe}
use Rattle.p3l_load.proofs.seal.seal_codes.Goals as goal

take_next : {A : Type 0} (xs : List A) (i : ℕ) (x : A) → i < length xs → x ≡ get_or xs i x → take (i + 1) xs ≡ take i xs ++ x ∷ []
take_next xs i x inside is =
    let next : i + 1 ≡ suc i = omega arith in
    ap (λ n. take n xs) next ∙ (take-suc xs i x inside ∙ ap (λ y. take i xs ++ y ∷ []) (sym is))

no_some : {A : Type 0} (o : Option A) → o ≡ None → IsSome o → ⊥
no_some None is some = absurd cc
no_some (Some x) is some = absurd cc

pub returns-in-None-clause-refused : goal.returns-in-None-clause-refused
returns-in-None-clause-refused c =
    let codes = c.args.codes.now in
    let i = c.loop-code.code-index in
    let item = c.code-item.result in
    let inv = c.loop-code.invariant in
    let at : slice_get codes c.loop-code.number ≡ Some item =
    ap (slice_get codes) inv.counted ∙ slice_get_read codes (length codes) i item refl c.loop-code-test.true c.code-item.is in
    let unsafe : ¬ IsSafe item =
    λ (safe : IsSafe item). no_some c.in_ok-code.field-0 c.in-None.is (c.in_ok-code.ensures.exact.1 (subst IsSafe (sym c.in_ok-copy_of.ensures) safe)) in
    record {
      before = subst (All IsSafe) (inv.same ∙ ap (λ n. take n codes) (sym inv.counted)) inv.safe;
      unsafe = subst (λ (o : Option Code). IsSomeAnd o (λ code. ¬ IsSafe code)) (sym at) unsafe;
    }

pub loop-code-preserved : goal.loop-code-preserved
loop-code-preserved c =
    let codes = c.args.codes.now in
    let i = c.loop-code.code-index in
    let item = c.code-item.result in
    let inv = c.loop-code.invariant in
    let copy = c.in_ok-copy_of.field-0 in
    let pushed = c.in_ok-push-in-Some.ensures.ok in
    let own : c.in-Some.code ≡ copy = subst (λ (o : Option Code). IfSome o (λ safe. safe ≡ copy)) c.in-Some.is c.in_ok-code.ensures.same in
    let is_safe : IsSafe copy = c.in_ok-code.ensures.exact.0 (subst IsSome (sym c.in-Some.is) refl) in
    record {
      same = pushed
          ∙ (ap (λ (l : List Code). l ++ c.in-Some.code ∷ []) inv.same
          ∙ (ap (λ (x : Code). take i codes ++ x ∷ []) (own ∙ c.in_ok-copy_of.ensures) ∙ sym (take_next codes i item c.loop-code-test.true c.code-item.is)));
      safe = subst (All IsSafe) (sym pushed) (All-push IsSafe c.loop-code.safe c.in-Some.code inv.safe (subst IsSafe (sym own) is_safe));
      counted = ap (λ n. n + 1) inv.counted;
    }

pub returns-clause-safe : goal.returns-clause-safe
returns-clause-safe c =
    let inv = c.loop-code.invariant in
    let codes = c.args.codes.now in
    let ended : length codes ≤ c.loop-code.code-index = omega (arith, c.loop-code-test.false) in
    subst (All IsSafe) (inv.same ∙ take_all c.loop-code.code-index codes ended) inv.safe
