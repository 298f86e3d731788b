use Rattle.std.proofs.Common.{◌≡◌, [], ap, sym, ◌∙◌}
use Rattle.std.specs.Option.{option_copied}
use Rattle.p3l_c_print.proofs.Places.{place_sizes, sizes_found}
use Rattle.p3l_c_print.proofs.names.Names.sizes.Goals as goal

pub returns-in-Some : goal.returns-in-Some
returns-in-Some c =
    let here = ap (λ o. place_sizes (option_copied o)) (sym c.in-Some.is) in
    c.as_slice.ensures ∙ here ∙ ap place_sizes c.place.ensures ∙ sym (sizes_found c.args.self.now.places c.args.name.now)

pub returns-in-None : goal.returns-in-None
returns-in-None c =
    let here = ap (λ o. place_sizes (option_copied o)) (sym c.in-None.is) in
    here ∙ ap place_sizes c.place.ensures ∙ sym (sizes_found c.args.self.now.places c.args.name.now)
