use Rattle.std.proofs.Common.{◌≡◌, ◌++◌, ◌∷◌, [], take, length, ap, ◌∙◌, arith}
use Rattle.std.proofs.Math.Seq.{take-length}
use Rattle.std.proofs.lemmas.Int.{to_z-of_z}
use Rattle.std.specs.Prelude.{bytes_eq}
use Rattle.indexmap.proofs.CallerLemmas.{insert_entry-new}
use Rattle.p3l_types.proofs.Constants.{taken}
use Rattle.p3l_types.proofs.consts.Consts.add.Goals as goal

pub returns-then-is_at-clause-ok : goal.returns-then-is_at-clause-ok
returns-then-is_at-clause-ok c = grind (arith, taken c.self.inside.values.value.entries c.self.inside.len c.args.name.now c.args.value)

pub returns-clause-ok : goal.returns-clause-ok
returns-clause-ok c =
    let pushed : c.insert.new.self.entries ≡ c.in_ok-values.values.entries ++ (c.args.name.now, c.args.value) ∷ [] =
    grind (arith, to_z-of_z, insert_entry-new bytes_eq c.in_ok-values.values c.in_ok-name.name c.args.value) in
    let held : c.in_ok-values-2.values.value.entries ≡ c.insert.new.self.entries = grind (arith) in
    let kept : c.in_ok-values.values.entries ≡ c.args.self.now = grind (arith) in
    let len : c.len-len.result ≡ length c.insert.new.self.entries = grind (arith) in
    ap (λ n. take n c.in_ok-values-2.values.value.entries) len
    ∙ ap (take (length c.insert.new.self.entries)) held
    ∙ take-length c.insert.new.self.entries
    ∙ pushed
    ∙ ap (λ front. front ++ (c.args.name.now, c.args.value) ∷ []) kept
