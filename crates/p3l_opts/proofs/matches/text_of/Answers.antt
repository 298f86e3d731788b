use Rattle.std.proofs.Common.{◌∙◌, ap}
use Rattle.clap.specs.Words.{first_of, found_of, rows_of}
use Rattle.clap.proofs.WalkLemmas.{first_value-rows}
use Rattle.p3l_opts.proofs.matches.text_of.Goals as goal

pub returns : goal.returns
returns c =
    let found = found_of c.args.matches.now in
    c.get_str.ensures ∙ first_value-rows found c.name.result.now ∙ ap (λ name. first_of name (rows_of found)) c.name.ensures
