-- The prepares of a group: made one after the other, each in the room of its body.
use Rattle.std.{proofs.Common.{◌≡◌, ℕ, suc, ◌+◌, ◌<◌, List, [], ◌∷◌, ◌++◌, length, drop, true, Some, refl, sym, ◌∙◌, ap, subst, arith, append_assoc}, specs.List.{slice_get}}
use Rattle.{df_base.specs.Log.{Event, Write}, df_buffers.specs.Sounds.{Holding}, df_theory.specs.Units.{PreparePlace}}
use Rattle.{df_format.specs.{Message.{Message, sectors_of}, Spelling.{IsCheck}}, df_units.specs.Bytes.{first_at}}
use Rattle.{df_journal.{specs.Flush.{AreOwn, group_puts, held_prepares}, proofs.Laws.{length_of_units}}, df_model.specs.Work.{Request}}
use Rattle.df_opening.{specs.Below.{DataFile, IsState, State, first_request}, proofs.Laws.{boot_made}}
use Rattle.df_replica.specs.{declared.flush.Group.{Group}, Appending.{unit_made}, Flushing.{AreHeld, AreMadeFor, MaySeal, flush_units, group_in, group_prepares, group_put_events, header_in}}

-- ---- the first of them

pub first_there : (rs : List Request) → 0 < length rs → slice_get rs 0 ≡ Some (first_request rs)
first_there [] some = absurd (omega (arith, some))
first_there (r ∷ rs) some = refl

pub units_first : (g : Group) (op : ℕ) (parent : List ℕ) (rs : List Request) → 0 < length rs
    → group_prepares g op parent rs ≡ unit_made (header_in g op parent (first_request rs)) (first_request rs).body
    ∷ group_prepares g (op + 1) (unit_made (header_in g op parent (first_request rs)) (first_request rs).body).header.checksum (drop 1 rs)
units_first g op parent [] some = absurd (omega (arith, some))
units_first g op parent (r ∷ rs) some = refl

pub length_units : (g : Group) (op : ℕ) (parent : List ℕ) (rs : List Request) → length (group_prepares g op parent rs) ≡ length rs
length_units g op parent [] = refl
length_units g op parent (r ∷ rs) = omega (arith, length_units g (op + 1) (unit_made (header_in g op parent r) r.body).header.checksum rs)

each_later : {P : Request → Type 0} (rs : List Request)
    → ((i : ℕ) (r : Request) → slice_get rs i ≡ Some r → P r) → (i : ℕ) (r : Request) → slice_get (drop 1 rs) i ≡ Some r → P r
each_later [] all i r at = absurd (cc)
each_later (x ∷ rs) all i r at = all (suc i) r at

pub length_later : (rs : List Request) → 0 < length rs → length (drop 1 rs) + 1 ≡ length rs
length_later [] some = absurd (omega (arith, some))
length_later (r ∷ rs) some = omega arith

-- the rest may follow it
pub seal_on : (g : Group) (op : ℕ) (parent check : List ℕ) (rs : List Request)
    → 0 < length rs → IsCheck check → MaySeal g op parent rs → MaySeal g (op + 1) check (drop 1 rs)
seal_on g op parent check rs some is may = record {
  next = record { group = may.next.group; from = omega (arith, may.next.from); parent_is = is; first = λ one. absurd (omega (arith, one, may.next.from, may.next.group.mark)) };
  to = omega (arith, may.to, length_later rs some);
  each = each_later rs may.each;
}

units_pushed : (helds : List Holding) (held : Holding) → held_prepares (helds ++ held ∷ []) ≡ held_prepares helds ++ held.unit ∷ []
units_pushed [] held = refl
units_pushed (x ∷ helds) held = ap (λ (us : List Message). x.unit ∷ us) (units_pushed helds held)

-- those that are made, with those that are to come, are the whole
pub units_turn : (g : Group) (op : ℕ) (parent check : List ℕ) (rs : List Request) (helds : List Holding) (held : Holding)
    (all : List Message) → 0 < length rs → held.unit ≡ unit_made (header_in g op parent (first_request rs)) (first_request rs).body
    → check ≡ (unit_made (header_in g op parent (first_request rs)) (first_request rs).body).header.checksum → held_prepares helds
    ++ group_prepares g op parent rs ≡ all → held_prepares (helds ++ held ∷ []) ++ group_prepares g (op + 1) check (drop 1 rs) ≡ all
units_turn g op parent check rs helds held all some made sum before =
    let u = unit_made (header_in g op parent (first_request rs)) (first_request rs).body in
    let rest = group_prepares g (op + 1) u.header.checksum (drop 1 rs) in
    ap (λ (c : List ℕ). held_prepares (helds ++ held ∷ []) ++ group_prepares g (op + 1) c (drop 1 rs)) sum
    ∙ ap (λ (us : List Message). us ++ rest) (units_pushed helds held) ∙ append_assoc (held_prepares helds) (held.unit ∷ []) rest
    ∙ ap (λ (x : Message). held_prepares helds ++ x ∷ rest) made
    ∙ ap (λ (us : List Message). held_prepares helds ++ us) (sym (units_first g op parent rs some)) ∙ before

-- all that is staged may be made a group
pub may_seal : (s : State) → IsState s → s.live ≡ true → MaySeal (group_in s) (s.head + 1) s.head_checksum s.staged
may_seal s is live = record {
  next = record {
    group = record {
      cluster = is.cluster;
      boot = (boot_made s (is.booted live), is.second.rules.boot);
      sequence = is.sequence;
      mark = omega (arith, is.waiting);
      few = omega (arith, is.staging.pipeline, is.waiting);
      unspent = is.staging.unspent;
    };
    from = omega arith;
    parent_is = is.parent;
    first = λ one. is.first (omega (arith, one));
  };
  to = omega arith;
  each = is.staging.each;
}

-- ---- their device calls

-- rooms that hold whole sectors are put as their prepares are
pub puts_same : (file : DataFile) (helds : List Holding)
    → AreMadeFor file helds → group_puts file.layout helds ≡ group_put_events file.layout (held_prepares helds)
puts_same file [] made = refl
puts_same file (held ∷ helds) made = let at = first_at file.layout (PreparePlace held.unit.header.slot) in
    ap (λ (bytes : List ℕ). Write at bytes ∷ group_puts file.layout helds) (made 0 held refl).sectors
    ∙ ap (λ (es : List Event). Write at (sectors_of held.unit) ∷ es) (puts_same file helds (λ i x there. made (suc i) x there))

-- ---- the rooms that hold them

pub count_held : (g : Group) (op : ℕ) (parent : List ℕ) (rs : List Request) (helds : List Holding)
    → held_prepares helds ≡ group_prepares g op parent rs → length helds ≡ length rs
count_held g op parent rs helds same =
    omega (arith, length_of_units helds, length_units g op parent rs, ap (λ (us : List Message). length us) same)

-- what was made of all that is staged
module _ (s : State) (g : Group) (sealed lent : List Holding)
    (of : g ≡ group_in s) (same : lent ≡ sealed) (units : held_prepares sealed ≡ group_prepares g g.first s.head_checksum s.staged) where
  pub lent_units : held_prepares lent ≡ flush_units s
  lent_units = ap held_prepares same ∙ units ∙ ap (λ (x : Group). group_prepares x x.first s.head_checksum s.staged) of

  pub lent_count : length lent ≡ length s.staged
  lent_count = count_held (group_in s) (s.head + 1) s.head_checksum s.staged lent lent_units

  pub lent_long : length lent ≡ length (flush_units s)
  lent_long = omega (arith, lent_count, length_units (group_in s) (s.head + 1) s.head_checksum s.staged)

  module _ (made : AreMadeFor g.file sealed) where
    pub lent_made : AreMadeFor s.file lent
    lent_made = subst (λ (file : DataFile). AreMadeFor file lent) (ap (λ (x : Group). x.file) of) (subst (AreMadeFor g.file) (sym same) made)

    pub lent_held : AreOwn s.file.layout lent → AreHeld s.file (flush_units s)
    lent_held own = record { helds = lent; units = lent_units; made = lent_made; own = own }
