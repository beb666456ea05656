-- The events of a past that grows by one, and the last change of a sector in a list that does.
use Rattle.std.{proofs.{Common.{◌≡◌, ℕ, ◌+◌, ◌-◌, ◌<◌, ◌≤◌, List, [], ◌∷◌, ◌++◌, length, take, map, get_or, Option, Some, None, refl, sym, ap, ◌∙◌, arith}, lemmas.List.{take_more, map-append, reverse-append}}, specs.Prelude.{reverse}}
use Rattle.df_base.specs.Log.{Event}
use Rattle.df_memdisk.specs.{History.{changes_of, event_of, events_of}, Newest.{first_some, last_change}, declared.change.Change.{Change}, declared.history.Happened.{Happened}}

-- a front of a list and its last element
take_last : {X : Type 0} → (xs : List X) (k : ℕ) (d : X) → 0 < k → k ≤ length xs → take k xs ≡ take (k - 1) xs ++ get_or xs (k - 1) d ∷ []
take_last {X} xs k d some within = let back : k - 1 + 1 ≡ k = omega arith in
    ap (λ (n : ℕ). take n xs) (sym back) ∙ take_more xs (k - 1) d (omega arith)

-- the newest event stands first
pub events_of-push : (past : List Happened) (h : Happened) → events_of (past ++ h ∷ []) ≡ event_of h ∷ events_of past
events_of-push past h =
    ap (λ (es : List Event). reverse es) (map-append event_of past (h ∷ [])) ∙ reverse-append (map event_of past) (event_of h ∷ [])

first_some-none : (a : Option (List ℕ)) → first_some a None ≡ a
first_some-none None = refl
first_some-none (Some x) = refl

first_some-assoc : (a b c : Option (List ℕ)) → first_some (first_some a b) c ≡ first_some a (first_some b c)
first_some-assoc None b c = refl
first_some-assoc (Some x) b c = refl

last_change-append : (cs ds : List (ℕ × List ℕ)) (sector : ℕ)
    → last_change (cs ++ ds) sector ≡ first_some (last_change ds sector) (last_change cs sector)
last_change-append [] ds sector = sym (first_some-none (last_change ds sector))
last_change-append (c ∷ cs) ds sector =
    rw (last_change-append cs ds sector) (first_some-assoc (last_change ds sector) (last_change cs sector) _)

-- the last change of a sector in a front of the changes is the front's last one, if it is of the sector, and else an earlier one
pub last_change-take : (changes : List Change) (k : ℕ) (d : Change) (sector : ℕ) → 0 < k → k ≤ length changes
    → last_change (changes_of (take k changes)) sector
    ≡ first_some (last_change (((get_or changes (k - 1) d).sector, (get_or changes (k - 1) d).bytes) ∷ []) sector)
    (last_change (changes_of (take (k - 1) changes)) sector)
last_change-take changes k d sector some within = let c : Change = get_or changes (k - 1) d in
    ap (λ (cs : List Change). last_change (changes_of cs) sector) (take_last changes k d some within) ∙ ap (λ (cs : List (ℕ × List ℕ)).
    last_change cs sector) (map-append (λ (change : Change). (change.sector, change.bytes)) (take (k - 1) changes) (c ∷ []))
    ∙ last_change-append (changes_of (take (k - 1) changes)) ((c.sector, c.bytes) ∷ []) sector
