-- The past is one event longer, and each strike was made before it.
use Rattle.std.{proofs.{Common.{◌≡◌, List, [], ◌∷◌, ◌++◌, length, sym, ap, subst, ◌∙◌, arith}, lemmas.List.{length-append}}, specs.Prelude.{reverse}}
use Rattle.{df_base.specs.Log.{AreEvents}, df_disk.{specs.Told.{IsHonest, did}, proofs.Laws.{honest_did}}}
use Rattle.df_memdisk.{specs.{History.{event_of, events_of}, State.{DiskState, IsDisk, told_by, told_of}, declared.history.Happened.{Happened}}, proofs.{Past.{events_of-push}, Struck.{AreBehind-more, told-more}, memory.MemoryDisk.keep.Goals.{in-Ok, in-Err}}}
use Rattle.df_memdisk.proofs.memory.MemoryDisk.keep.Goals as goal

pub invariant_of-self : goal.invariant_of-self
invariant_of-self c = elim c.match-push.branch [
  | in-Ok w ↦ (let is : c.push.new.self.items ≡ c.self.inside.past.items ++ c.args.happened ∷ [] = w.in-Ok.ensures.items in
      let events : events_of c.push.new.self.items ≡ event_of c.args.happened ∷ c.args.self.now.events =
      ap (λ (hs : List Happened). events_of hs) is ∙ events_of-push c.self.inside.past.items c.args.happened
      ∙ ap (λ (d : DiskState). event_of c.args.happened ∷ d.events) c.self.view_is in record {
        possible = subst AreEvents (sym events) c.requires;
        behind = AreBehind-more (reverse c.self.inside.strikes.items) (length c.self.inside.past.items) (length c.push.new.self.items)
            (omega (arith, ap (λ (hs : List Happened). length hs) is, length-append c.self.inside.past.items (c.args.happened ∷ [])))
            c.self.invariant.behind;
      })
  | in-Err w ↦ (let P : List Happened → Type 0 = λ hs. IsDisk hs c.self.inside.strikes.items in
      subst P (sym w.in-Err.ensures.items) c.self.invariant)
]

pub returns-clause-told : goal.returns-clause-told
returns-clause-told c = elim c.match-push.branch [
  | in-Ok w ↦ rw w.result-is (told-more c.self.inside.past.items
      c.push.new.self.items c.args.happened (reverse c.self.inside.strikes.items) w.in-Ok.ensures.items c.self.invariant.behind
      ∙ ap (λ (d : DiskState). did (event_of c.args.happened) (told_of d)) c.self.view_is)
  | in-Err w ↦ rw w.result-is tt
]

pub returns-clause-honest : goal.returns-clause-honest
returns-clause-honest c = let told = returns-clause-told c in elim c.match-push.branch [
  | in-Ok w ↦ (let now-told = rw w.result-is at told in
      λ honest. subst IsHonest (sym now-told) (honest_did (event_of c.args.happened) (told_of c.args.self.now) honest))
  | in-Err w ↦ (let P : List Happened → Type 0 = λ hs. IsHonest (told_by (events_of hs) (reverse c.self.inside.strikes.items)) in
      let Q : DiskState → Type 0 = λ d. IsHonest (told_of d) in
      λ honest. subst P (sym w.in-Err.ensures.items) (subst Q (sym c.self.view_is) honest))
]
