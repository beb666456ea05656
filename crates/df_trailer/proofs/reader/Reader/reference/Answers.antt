-- A block's checksum stands after those of the lower ones.
use Rattle.std.proofs.{Common.{◌∙◌, ℕ, List, true, false, Some, None, [], get_or, refl, sym, ap, arith}, lemmas.List.{get_or_read}}
use Rattle.df_trailer.proofs.Said.{below_few, below_next, has_reference, kept_here}
use Rattle.df_trailer.proofs.reader.Reader.reference.Goals as goal

pub index-requires : goal.index-requires
index-requires c = let few = below_few c.args.self.now c.args.address c.args.before c.requires.inside c.requires.before in
    omega (arith, c.requires.inside.1, c.args.self.now.checks_room)

pub returns-then-is_set : goal.returns-then-is_set
returns-then-is_set c = let r = c.args.self.now in let rows : List (List ℕ) = r.parts.checks.items in
    let few = below_few r c.args.address c.args.before c.requires.inside c.requires.before in
    let read = get_or_read rows _ _ (omega (arith, c.requires.inside.1, r.checks_room, r.parts.checks.ok.0)) c.index.ensures [] in
    has_reference r c.args.address c.args.before (Some c.index.result.now) c.requires.inside c.requires.before
    (kept_here r c.args.address c.deref.result.now rows true c.index.result.now c.requires.inside c.deref.ensures.value refl
    (λ bytes h. sym c.if-is_set.true ∙ c.is_set.ensures bytes h) (λ _. read ∙ ap (λ (n : ℕ). get_or rows n []) c.requires.before))
    (below_next r c.args.address c.args.before c.deref.result.now true c.requires.inside c.deref.ensures.value c.requires.before (λ bytes h.
    sym c.if-is_set.true ∙ c.is_set.ensures bytes h)) tt

pub returns-else-is_set : goal.returns-else-is_set
returns-else-is_set c = let r = c.args.self.now in has_reference r c.args.address c.args.before None c.requires.inside c.requires.before
    (kept_here r c.args.address c.deref.result.now r.parts.checks.items false [] c.requires.inside c.deref.ensures.value refl
    (λ bytes h. sym c.if-is_set.false ∙ c.is_set.ensures bytes h) (λ no. cc))
    tt (below_next r c.args.address c.args.before c.deref.result.now
    false c.requires.inside c.deref.ensures.value c.requires.before (λ bytes h. sym c.if-is_set.false ∙ c.is_set.ensures bytes h))
