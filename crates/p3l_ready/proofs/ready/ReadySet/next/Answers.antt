use Rattle.std.proofs.Common.{◌≡◌, ◌-◌, ap, sym, ◌∙◌, length, arith}
use Rattle.std.specs.List.{find, range_with_len}
use Rattle.std.specs.Option.{option_or}
use Rattle.std.proofs.lemmas.List.Folds.{find-append}
use Rattle.p3l_ready.specs.Flags.{flag_at}
use Rattle.p3l_ready.proofs.ready.ReadySet.next.Goals as goal

pub returns-in-Some : goal.returns-in-Some
returns-in-Some c =
    let long : c.len.result ≡ length c.args.self.now = omega (arith, c.len.ensures, ap length c.self.view_is) in
    let first = c.in-Some.ensures ∙ ap (λ n. find (flag_at c.args.self.now) (range_with_len c.args.from (n - c.args.from))) long in
    ap (λ o. option_or o (find (flag_at c.args.self.now) (range_with_len 0 c.args.from))) first
    ∙ sym (find-append (flag_at c.args.self.now) (range_with_len c.args.from (length c.args.self.now - c.args.from)) (range_with_len 0 c.args.from))

pub returns-in-None : goal.returns-in-None
returns-in-None c =
    let long : c.len.result ≡ length c.args.self.now = omega (arith, c.len.ensures, ap length c.self.view_is) in
    let whole : c.args.from - 0 ≡ c.args.from = omega arith in
    let first = c.in-None.ensures ∙ ap (λ n. find (flag_at c.args.self.now) (range_with_len c.args.from (n - c.args.from))) long in
    c.first_between-in-None.ensures
    ∙ ap (λ n. find (flag_at c.args.self.now) (range_with_len 0 n)) whole
    ∙ ap (λ o. option_or o (find (flag_at c.args.self.now) (range_with_len 0 c.args.from))) first
    ∙ sym (find-append (flag_at c.args.self.now) (range_with_len c.args.from (length c.args.self.now - c.args.from)) (range_with_len 0 c.args.from))
