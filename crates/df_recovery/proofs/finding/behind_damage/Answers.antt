-- The lowest member, or the first copy where there is none.
use Rattle.std.{specs.{Prelude.{position}, Option.{unwrap_or}}, proofs.{Common.{◌≡◌, ◌∙◌, ℕ, Bool, Option, Some, None, ap, refl, rules, tests}, lemmas.{Iterator.{YieldsList-from_slice}, Iterator.Search.{position_from_yields_List}}}}
use Rattle.{df_layout.specs.declared.damage.Class.TheVariants.{Stale}, df_recovery.specs.{Below.{CopyPlace}, Finding.{damage, or_first}}}
use Rattle.df_recovery.proofs.finding.behind_damage.Goals as goal

or_first_is : (o : Option ℕ) → unwrap_or o 0 ≡ or_first o
or_first_is None = refl
or_first_is (Some number) = refl

pub returns : goal.returns
returns c = let at : c.position.result ≡ position (λ (member : Bool). member) c.args.found.now.chosen.members =
    position_from_yields_List (λ (member : Bool). member) _ _ c.position.result c.position.ensures.ran
    (YieldsList-from_slice c.args.found.now.chosen.members (cc)) (λ x b q k. search (rules, tests)) in
    c.damage.ensures ∙ ap (λ (n : ℕ). damage (CopyPlace n) Stale) (c.unwrap_or-lowest.ensures ∙ or_first_is c.position.result
    ∙ ap or_first at)
