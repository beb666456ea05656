-- Commands of a list that are made one after the other: those that were, and those to come.
use Rattle.std.{proofs.Common.{◌≡◌, ℕ, suc, ◌+◌, ◌-◌, ◌<◌, ◌≤◌, map, arith, List, [], ◌∷◌, ◌++◌, Option, refl, sym, ◌∙◌, subst, append_assoc, append-nil}, specs.List.{range_with_len}}
use Rattle.{df_disk.specs.Told.{Told}, df_model.specs.Commands.{Command}, df_session.specs.Below.{State as Replica}}
use Rattle.df_table.{specs.{declared.ending.Ending.{Ending}, Turns.{EndIn, MakeAll}}, proofs.Joined.{end_front, end_more, make_more, make_none}}

-- of these commands all but the last ones were made
pub record IsMaking (all rest : List Command) (s t : Replica) (old now : Option Told) : Type 0 where
  pub done : List Command
  pub makes : MakeAll done s t old now
  pub split : done ++ rest ≡ all

pub making_none : (all : List Command) (s : Replica) (told : Option Told) → IsMaking all all s s told told
making_none all s told = record { done = []; makes = make_none s told; split = refl }

module _ (all some rest : List Command) (s t u : Replica) (old now new : Option Told) (is : IsMaking all (some ++ rest) s t old now) where
  -- the next ones are made
  pub making_more : MakeAll some t u now new → IsMaking all rest s u old new
  making_more made = record {
    done = is.done ++ some;
    makes = make_more is.done some s t u old now new is.makes made;
    split = append_assoc is.done some rest ∙ is.split;
  }

  -- or they end it
  pub making_ends : (ending : Ending) → EndIn some t u now new ending → EndIn all s u old new ending
  making_ends ending ends = subst (λ (l : List Command). EndIn l s u old new ending) is.split
      (end_more is.done (some ++ rest) s t u old now new is.makes ending (end_front some rest t u now new ending ends))

-- none is left
pub all_making : (all : List Command) (s t : Replica) (old now : Option Told) → IsMaking all [] s t old now → MakeAll all s t old now
all_making all s t old now is = subst (λ (l : List Command). MakeAll l s t old now) (sym (append-nil is.done) ∙ is.split) is.makes

-- ---- commands that are counted

module _ (f : ℕ → Command) (all : List Command) (b h : ℕ) (less : b < h)
    (s t u : Replica) (old now new : Option Told) (is : IsMaking all (map f (range_with_len (b + 1) (h - b))) s t old now) where
  counted : IsMaking all ((f (b + 1) ∷ []) ++ map f (range_with_len (b + 1 + 1) (h - (b + 1)))) s t old now
  counted = rw one_more at is
    where
      one_more : h - b ≡ suc (h - (b + 1))
      one_more = omega (arith, less)

  pub counted_more : MakeAll (f (b + 1) ∷ []) t u now new → IsMaking all (map f (range_with_len (b + 1 + 1) (h - (b + 1)))) s u old new
  counted_more made = making_more all (f (b + 1) ∷ []) (map f (range_with_len (b + 1 + 1) (h - (b + 1)))) s t u old now new counted made

  pub counted_ends : (ending : Ending) → EndIn (f (b + 1) ∷ []) t u now new ending → EndIn all s u old new ending
  counted_ends ending ends =
      making_ends all (f (b + 1) ∷ []) (map f (range_with_len (b + 1 + 1) (h - (b + 1)))) s t u old now new counted ending ends

pub all_counted : (f : ℕ → Command) (all : List Command) (b h : ℕ) (s t : Replica) (old now : Option Told)
    → h ≤ b → IsMaking all (map f (range_with_len (b + 1) (h - b))) s t old now → MakeAll all s t old now
all_counted f all b h s t old now past is = all_making all s t old now (rw (none b h past) at is)
  where
    none : (b h : ℕ) → h ≤ b → h - b ≡ 0
    none b h past = omega (arith, past)
