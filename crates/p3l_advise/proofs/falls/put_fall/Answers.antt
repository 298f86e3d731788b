use Rattle.std.proofs.Common.{◌≡◌, ◌∙◌, ◌++◌, ℕ, List, ap, subst}
use Rattle.std.specs.Prelude.{string_bytes}
use Rattle.p3l_advise.specs.Falls.{fall_words}
use Rattle.p3l_advise.proofs.falls.put_fall.Goals as goal

pub returns : goal.returns
returns c =
    let made : string_bytes c.push_str.new.self ≡ string_bytes c.args.text.now ++ fall_words c.args.processors c.args.best c.hundredths-faster.result =
    c.in_ok-push_str.ensures.bytes ∙ ap (λ (xs : List ℕ). string_bytes c.args.text.now ++ xs) (c.as_str.ensures.value ∙ c.in_ok-words.ensures.ok) in
    subst (λ (h : ℕ). string_bytes c.push_str.new.self ≡ string_bytes c.args.text.now ++ fall_words c.args.processors c.args.best h) c.hundredths-faster.ensures made
