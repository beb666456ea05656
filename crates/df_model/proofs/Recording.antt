-- What a superblock records of the state as it is.
use Rattle.std.{proofs.{Common.{◌≡◌, inl, inr, ℕ, zero, suc, ◌+◌, ◌-◌, ◌<◌, ◌≤◌, List, [], ◌∷◌, length, map, take, drop, slice_index, Option, Some, None, refl, ◌∙◌, ap, arith, length-drop}, lemmas.Bool.{cases_lt}, lemmas.List.{get_or_past, take_all}, lemmas.List.FromFn.{get_or-map-range_with_len, length-map-range_with_len}, lemmas.Option.{slice_get_past, slice_get_within}}, specs.List.{range_with_len, slice_get}}
use Rattle.df_theory.specs.{Units.{Content, Layout, Message, Parts, Session}, Sessions.{Answers}, Tails.{last_checksum}, Shape.{Shape, clients}, View.{View, head, sessions}, Holds.{Sound}, Next.{Records}, Upgrades.{as_version}}
use Rattle.df_model.specs.{Work.{Work}, Memory.{Memory, joined, memory_of, reply_sum, stored_sum}, Making.{named_places, named_sums, recorded, sum_or_zero}}

-- ---- lists

pub get_range : {X : Type 0} (f : ℕ → X) (a n i k : ℕ) → i < n → k ≡ a + i → slice_get (map f (range_with_len a n)) i ≡ Some (f k)
get_range f a zero i k less is = absurd (omega arith)
get_range f a (suc n) zero k less is = ap (λ (x : ℕ). Some (f x)) (let e : a ≡ k = omega arith in e)
get_range f a (suc n) (suc i) k less is = get_range f (a + 1) n i k (omega arith) (omega arith)

-- ---- the named replies

pub named_count : (m : Memory) → length (named_sums m) ≡ named_places
unfolding named_sums
named_count m = length-map-range_with_len (λ k. sum_or_zero (reply_sum m k)) 0 named_places

pub named_at : (m : Memory) (k : ℕ) → k < named_places → slice_index (named_sums m) k ≡ sum_or_zero (reply_sum m k)
unfolding named_sums
named_at m k inside = get_or-map-range_with_len (λ i. sum_or_zero (reply_sum m i)) 0 named_places k k 0 inside (omega arith)

-- where no reply is stored, and beyond the places, none is named
named_none : (m : Memory) (k : ℕ) → slice_get m.stored k ≡ None → slice_index (named_sums m) k ≡ 0
named_none m k none = elim (cases_lt k named_places) [
  | inl inside ↦ named_at m k inside ∙ ap (λ (o : Option (Option ℕ)). sum_or_zero (joined o)) none
  | inr past ↦ get_or_past (named_sums m) k 0 (omega (arith, past, named_count m))
]

named_some : (m : Memory) (k sum : ℕ) → k < named_places → slice_get m.stored k ≡ Some (Some sum) → slice_index (named_sums m) k ≡ sum
named_some m k sum inside some = named_at m k inside ∙ ap (λ (o : Option (Option ℕ)). sum_or_zero (joined o)) some

-- ---- the tail

pub last_split : (n c : ℕ) (ps : List Message) → last_checksum (last_checksum c (take n ps)) (drop n ps) ≡ last_checksum c ps
last_split zero c ps = refl
last_split (suc n) c [] = refl
last_split (suc n) c (x ∷ ps) = last_split n x.header.checksum ps

-- ---- the state

-- a view whose state a superblock may record
pub record IsRecordable (v : View) : Type 0 where
  pub pin : v.checkpoint.content.pin ≤ head v
  pub answered : v.checkpoint.content.answered ≤ v.replies + 1
  pub stored : (k : ℕ) (r : Message)
      → v.stored k ≡ Some r → (s : Session) × (slice_get (sessions v) k ≡ Some s) × (s.op ≤ v.replies) × Answers s r
  pub few : length (sessions v) ≤ v.checkpoint.content.layout.clients
  pub places : v.checkpoint.content.layout.clients ≤ named_places

-- so is each view that makes sense, whatever its version
pub recordable : (sh : Shape) (n : ℕ) (v : View)
    → Sound sh v → length (sessions v) ≤ clients sh → clients sh ≤ named_places → IsRecordable (as_version n v)
recordable sh n v sound few places =
    let same : v.checkpoint.content.layout.clients ≡ sh.layout.clients = ap (λ (l : Layout). l.clients) sound.checkpoint.tests.layout in
    record {
      pin = sound.records.pin_to;
      answered = omega (arith, sound.checkpoint.tests.answered, sound.replies_from.0);
      stored = sound.answered;
      few = omega (arith, same, few);
      places = omega (arith, same, places);
    }

module _ (sh : Shape) (spell : Parts → List ℕ) (w : Work) (is : IsRecordable w.view) where
  abbrev v : View
  v = w.view

  abbrev m : Memory
  m = memory_of sh spell w

  names_stored : (k : ℕ) (r : Message) → v.stored k ≡ Some r → slice_index (named_sums m) k ≡ r.header.checksum
  names_stored k r at = let s = is.stored k r at in let inside : k < length (sessions v) = slice_get_within (sessions v) k s.0 s.1 in
      named_some m k r.header.checksum (omega (arith, inside, is.few, is.places)) (get_range (λ i.
      stored_sum (v.stored i)) 0 (length (sessions v)) k k inside (omega arith) ∙ ap (λ (o : Option Message). Some (stored_sum o)) at)

  names_no_more : (k : ℕ) → v.checkpoint.content.layout.clients ≤ k → slice_index (named_sums m) k ≡ 0
  names_no_more k from =
      let long : length m.stored ≡ length (sessions v) = length-map-range_with_len (λ i. stored_sum (v.stored i)) 0 (length (sessions v)) in
      named_none m k (slice_get_past m.stored k (omega (arith, long, is.few, from)))

  names_none : (k : ℕ) → v.stored k ≡ None → slice_index (named_sums m) k ≡ 0
  names_none k none = elim (cases_lt k (length (sessions v))) [
    | inl inside ↦ let at : slice_get m.stored k ≡ Some None = get_range (λ i.
        stored_sum (v.stored i)) 0 (length (sessions v)) k k inside (omega arith) ∙ ap (λ (o : Option Message). Some (stored_sum o)) none in
        named_at m k (omega (arith, inside, is.few, is.places)) ∙ ap (λ (o : Option (Option ℕ)). sum_or_zero (joined o)) at
    | inr past ↦ named_none m k
        (slice_get_past m.stored k (omega (arith, past, length-map-range_with_len (λ i. stored_sum (v.stored i)) 0 (length (sessions v)))))
  ]

  -- what it records is so, whatever op of the tail it reaches
  pub records_now : (c : Content) → v.checkpoint.content.op ≤ c.op → c.op ≤ head v → c.op_checksum
      ≡ last_checksum v.checkpoint.content.op_checksum (take (c.op - v.checkpoint.content.op) v.tail) → Records v (recorded m c)
  records_now c from to sum = let n = c.op - v.checkpoint.content.op in let all : take (head v - c.op) (drop n v.tail) ≡ drop n v.tail =
      take_all (head v - c.op) (drop n v.tail) (omega (arith, length-drop n v.tail, from, to)) in record {
        pin_from = (is.pin, to);
        pin_to = omega arith;
        checksum = ap (λ (ps : List Message). last_checksum c.op_checksum ps) all
            ∙ ap (λ (k : ℕ). last_checksum k (drop n v.tail)) sum ∙ last_split n v.checkpoint.content.op_checksum v.tail;
        answered = (is.answered, omega arith);
        stored = λ k r at below. names_stored k r at;
        unstored = names_none;
        spare = names_no_more;
      }
