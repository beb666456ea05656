-- All live blocks are released, address by address: after each address those above it are left.
use Rattle.std.{proofs.Common.{◌≡◌, ℕ, suc, ◌+◌, ◌-◌, ◌<◌, Bool, if◌then◌else◌, List, [], ◌∷◌, ◌++◌, map, Option, Some, None, refl, sym, ◌∙◌, ap, subst, arith, eq-eqb}, specs.List.{range_with_len}}
use Rattle.{df_base.proofs.Laws.{minus_zero}, df_disk.specs.Told.{Told}, df_layout.specs.declared.layout.Layout.{Layout}}
use Rattle.df_model.{specs.{Memory.{Memory}, Blocks.{entries, entry, sum_at, without_entry}, Commands.{Command, Release}}, proofs.Laws.{entry_at, without_none}}
use Rattle.df_session.specs.{Below.{State as Replica, memory}, Blocks.{released}}
use Rattle.df_table.{specs.{Policy.{releases, releases_at}, Ready.{IsReadyReplica, without_live}, Turns.{MakeAll}}, proofs.{Joined.{make_none}, Making.{IsMaking, all_making, making_more}}}

-- the live blocks of a replica that is ready, as a map's entries
pub live_entries : (layout : Layout) (s : Replica) (ready : IsReadyReplica layout s)
    → s.blocks.live ≡ entries ready.work.live (range_with_len 1 layout.blocks)
live_entries layout s ready = ap (λ (m : Memory). m.blocks.live) ready.stands.1
    ∙ ap (λ (l : Layout). entries ready.work.live (range_with_len 1 l.blocks)) ready.layout_is

-- the releases of entries
abbrev pub releases_of : List (ℕ × ℕ) → List Command
releases_of xs = map (λ (x : ℕ × ℕ). Release x.0) xs

-- ---- one address

-- a block is live there
pub release_some : (a : ℕ) (s t : Replica) (told : Option Told) (c : ℕ)
    → sum_at a s.blocks.live ≡ Some c → MakeAll (Release a ∷ []) s t told told → MakeAll (releases_at a (memory s)) s t told told
release_some a s t told c is made = subst (λ (o : Option ℕ). MakeAll (releases_of (entry a o [])) s t told told) (sym is) made

-- none is
pub release_none : (a : ℕ) (s : Replica) (told : Option Told) → sum_at a s.blocks.live ≡ None → MakeAll (releases_at a (memory s)) s s told told
release_none a s told none = subst (λ (o : Option ℕ). MakeAll (releases_of (entry a o [])) s s told told) (sym none) (make_none s told)

pub released_none : (a : ℕ) (s : Replica) → sum_at a s.blocks.live ≡ None → s ≡ released s a
released_none a s none = ap (λ (l : List (ℕ × ℕ)). record s { blocks = record s.blocks { live = l } }) (sym (without_none a s.blocks.live none))

-- ---- one after the other

-- Of n addresses those up to b were gone through: their blocks are released, and the others are live.
pub record IsReleasing (f : ℕ → Option ℕ) (n b : ℕ) (s t : Replica) (told : Option Told) : Type 0 where
  pub making : IsMaking (releases (memory s)) (releases_of t.blocks.live) s t told told
  pub left : t.blocks.live ≡ entries f (range_with_len (b + 1) (n - b))
  pub state : t ≡ record s { blocks = record s.blocks { live = t.blocks.live } }

pub starts : (f : ℕ → Option ℕ) (n : ℕ) (s : Replica) (told : Option Told)
    → s.blocks.live ≡ entries f (range_with_len 1 n) → IsReleasing f n 0 s s told
starts f n s told is = record { making = record { done = []; makes = make_none s told; split = refl }; left = is ∙ ap (λ (k : ℕ). entries f (range_with_len 1 k)) (minus_zero n); state = refl }

module _ (f : ℕ → Option ℕ) (n b : ℕ) (less : b < n) where
  abbrev rest : List (ℕ × ℕ)
  rest = entries f (range_with_len (b + 1 + 1) (n - (b + 1)))

  next_is : entries f (range_with_len (b + 1) (n - b)) ≡ entry (b + 1) (f (b + 1)) rest
  next_is = ap (λ (k : ℕ). entries f (range_with_len (b + 1) k)) one_more
    where
      one_more : n - b ≡ suc (n - (b + 1))
      one_more = omega (arith, less)

  -- the release of the first, and those of the rest
  parts : (o : Option ℕ) → releases_of (entry (b + 1) o []) ++ releases_of rest ≡ releases_of (entry (b + 1) o rest)
  parts None = refl
  parts (Some c) = refl

  module _ (s t : Replica) (told : Option Told) (is : IsReleasing f n b s t told) where
    looked_up : sum_at (b + 1) t.blocks.live ≡ f (b + 1)
    looked_up = ap (sum_at (b + 1)) is.left ∙ entry_at f (b + 1) (n - b) (b + 1) (omega arith) (omega (arith, less))

    live_is : t.blocks.live ≡ entry (b + 1) (sum_at (b + 1) t.blocks.live) rest
    live_is = is.left ∙ next_is ∙ ap (λ (o : Option ℕ). entry (b + 1) o rest) (sym looked_up)

    -- what is left without it
    without_it : (o : Option ℕ) → sum_at (b + 1) t.blocks.live ≡ o → without_entry (b + 1) t.blocks.live ≡ rest
    without_it None none = without_none (b + 1) t.blocks.live none ∙ live_is ∙ ap (λ (o : Option ℕ). entry (b + 1) o rest) none
    without_it (Some c) some = ap (without_entry (b + 1)) (live_is ∙ ap (λ (o : Option ℕ). entry (b + 1) o rest) some)
        ∙ ap (λ (p : Bool). if p then rest else (b + 1, c) ∷ without_entry (b + 1) rest) (eq-eqb (b + 1) (b + 1) refl)

    now_making : IsMaking (releases (memory s)) (releases_at (b + 1) (memory t) ++ releases_of rest) s t told told
    now_making = subst (λ (l : List Command). IsMaking (releases (memory s)) l s t told told)
        (ap releases_of live_is ∙ sym (parts (sum_at (b + 1) t.blocks.live))) is.making

    -- the block of the next address is released, if there is one
    pub next_released : (u : Replica)
        → u ≡ released t (b + 1) → MakeAll (releases_at (b + 1) (memory t)) t u told told → IsReleasing f n (b + 1) s u told
    next_released u behind made = let taken : without_entry (b + 1) t.blocks.live ≡ rest = without_it (sum_at (b + 1) t.blocks.live) refl in
        let live : u.blocks.live ≡ rest = ap (λ (v : Replica). v.blocks.live) behind ∙ taken in record {
          making = rw (sym live) at
              (making_more (releases (memory s)) (releases_at (b + 1) (memory t)) (releases_of rest) s t u told told told now_making made);
          left = live;
          state = behind ∙ ap (λ (v : Replica). released v (b + 1)) is.state
              ∙ ap (λ (l : List (ℕ × ℕ)). record s { blocks = record s.blocks { live = l } }) (taken ∙ sym live);
        }

-- none is left
module _ (f : ℕ → Option ℕ) (n b : ℕ) (s t : Replica) (told : Option Told) (is : IsReleasing f n b s t told) (all : b ≡ n) where
  none_live : t.blocks.live ≡ []
  none_live = is.left ∙ ap (λ (k : ℕ). entries f (range_with_len (b + 1) k)) none_left
    where
      none_left : n - b ≡ 0
      none_left = omega (arith, all)

  pub all_made : MakeAll (releases (memory s)) s t told told
  all_made = all_making (releases (memory s))
      s t told told (subst (λ (l : List (ℕ × ℕ)). IsMaking (releases (memory s)) (releases_of l) s t told told) none_live is.making)

  pub all_released : t ≡ without_live s
  all_released = is.state ∙ ap (λ (l : List (ℕ × ℕ)). record s { blocks = record s.blocks { live = l } }) none_live
