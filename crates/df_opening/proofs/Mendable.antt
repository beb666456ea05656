-- What is planned of a file that is found may be mended: each slot and each copy that isn't as it should be is written, and no member.
use Rattle.std.{proofs.{Common.{◌≡◌, ◌⊎◌, inl, inr, ℕ, zero, suc, ◌+◌, ◌*◌, ◌/◌, ◌%◌, ◌<◌, ◌==◌, List, [], ◌∷◌, ◌++◌, length, Bool, true, false, IsTrue, get_or, Some, None, refl, sym, ◌∙◌, ap, subst, arith}, lemmas.Bool.{cases_eq, cond-true, eq-eqb, cases_Bool, or_right, or_left}, lemmas.List.{map-append}, lemmas.List.Folds.{list_any-append}, lemmas.Option.{slice_get-get_or}}, specs.List.{list_any, slice_get}}
use Rattle.{df_base.{specs.Image.{IsImage}, proofs.Laws.{now_is_image}}, df_disk.specs.Told.{Told}, df_superblock.specs.Steps.{repaired}}
use Rattle.df_base.specs.Log
use Rattle.{df_layout.specs.declared.damage.{Class.{Class}, Mend.{Mend}}, df_journal.specs.declared.table.Start.{Start}}
use Rattle.df_format.specs.{declared.header.Header.{Header}, declared.superblock.SuperFields.{SuperFields}, Copies.{content_at, content_with}}
use Rattle.df_quorum.specs.Quorum
use Rattle.df_theory.specs.Units
use Rattle.df_theory.{specs.{Units.{AnyUnit, CopyPlace, CopyUnit, HeaderPlace, HeaderUnit, Place}, Chance.{InPools}, Device.{units_log}, Found.{IsFound}, Copies.{Agree}, MendLaws.{AllPutCopy, AllPutTable, IsNumber, IsTable, PutsTable, Reaches}, Shape.{Shape, slots}, UnitLog.{now}, View.{View}}, proofs.Laws.{dry_quiet, found_law, now_units, one_chosen_law, put_one_law}}
use Rattle.df_theory.specs.Copies
use Rattle.df_units.{specs.{Bytes.{copy_unit, unit_at}, Meaning.{content_of, header_of}, Puts.{header_unit}, Sample.{reserved_header}}, proofs.Laws.{choice_chosen, sector_puts as sector_puts_law}}
use Rattle.df_headers.{specs.Ring.{in_sector}, proofs.Laws.{sector_at, sector_has}}
use Rattle.df_damage.{specs.{Below.{DataFile, shape}, Plan.{AreDistinctUnits, IsScanOf, copy_mends, header_or_none, headers_in, if_wanted, needs_header, shown_class, slot_mend, slot_mends}}, proofs.Laws.{slot_mends_more, super_is_written_as, written_as}}
use Rattle.df_opening.{specs.{Mending.{IsPlanned, PlannedMayMend, RestsOnDisk, lies_in, needs_sector, sector_put, sector_puts, sectors_of, sectors_to}, Keeping.{Grade, format}}, proofs.{Followed.{in_pools}, MendEvents.{sectors_more}}}

-- ---- copies

not_member : (f : SuperFields) (n j : ℕ) (members : List Bool)
    → j < length members → get_or members j false ≡ false → IsNumber (n + j) (repaired f n members)
not_member f n j [] inside isnt = absurd (omega arith)
not_member f n zero (true ∷ members) inside isnt = absurd (cc)
not_member f n (suc j) (true ∷ members) inside isnt = subst (λ (k : ℕ). IsNumber k (repaired f (n + 1) members))
    (let same : n + 1 + j ≡ n + suc j = omega arith in same) (not_member f (n + 1) j members (omega arith) isnt)
not_member f n zero (false ∷ members) inside isnt = inl (omega arith)
not_member f n (suc j) (false ∷ members) inside isnt = inr (subst (λ (k : ℕ). IsNumber k (repaired f (n + 1) members))
    (let same : n + 1 + j ≡ n + suc j = omega arith in same) (not_member f (n + 1) j members (omega arith) isnt))

-- the number isn't that of a copy that is written
abbrev IsSpared : ℕ → ℕ → List Bool → Type 0
IsSpared a n members = (j : ℕ) → get_or members j false ≡ false → j < length members → a ≡ n + j → ⊥

spared_more : (a n : ℕ) (b : Bool) (members : List Bool) → IsSpared a n (b ∷ members) → IsSpared a (n + 1) members
spared_more a n b members spared j isnt inside same = spared (suc j) isnt (omega (arith, inside)) (omega (arith, same))

all_put : (f : SuperFields) (a b n : ℕ) (members : List Bool)
    → IsSpared a n members → IsSpared b n members → AllPutCopy (content_of (content_with f)) a b (repaired f n members)
all_put f a b n [] one two = tt
all_put f a b n (true ∷ members) one two = all_put f a b (n + 1) members (spared_more a n true members one) (spared_more b n true members two)
all_put f a b n (false ∷ members) one two = (
  put_one_law (CopyPlace n) (CopyUnit (content_of (content_with f))),
  λ same. one 0 refl (omega arith) (omega (arith, same)),
  λ same. two 0 refl (omega arith) (omega (arith, same)),
  all_put f a b (n + 1) members (spared_more a n false members one) (spared_more b n false members two),
)

-- ---- header sectors

one_put : (table : List Header) (sector : ℕ) → PutsTable (headers_in table) (sector_put table sector)
one_put table sector place y put = let e = sector_puts_law sector (in_sector sector table) place y put in let s = e.0 in
    let at : slice_get table (16 * sector + s % 16) ≡ Some e.1 = (sector_at sector (s % 16) table e.1 e.5).1 in
    let same : 16 * sector + s % 16 ≡ s = omega (arith, e.4) in
    (s, e.2, e.3 ∙ ap HeaderUnit (sym (ap header_or_none (subst (λ (k : ℕ). slice_get table k ≡ Some e.1) same at))))

all_puts_table : (table : List Header) (ks : List ℕ) → AllPutTable (headers_in table) (sector_puts table ks)
all_puts_table table [] = tt
all_puts_table table (k ∷ ks) = (one_put table k, all_puts_table table ks)

reaches_left : (xs ys : List Units.Units) (place : Place) → Reaches xs place → Reaches (xs ++ ys) place
reaches_left [] ys place none = absurd none
reaches_left (x ∷ xs) ys place (inl here) = inl here
reaches_left (x ∷ xs) ys place (inr there) = inr (reaches_left xs ys place there)

reaches_right : (xs ys : List Units.Units) (place : Place) → Reaches ys place → Reaches (xs ++ ys) place
reaches_right [] ys place there = there
reaches_right (x ∷ xs) ys place there = inr (reaches_right xs ys place there)

puts_more : (table : List Header) (mends : List Mend) (k : ℕ) → sector_puts table (sectors_to (k + 1) mends)
    ≡ sector_puts table (sectors_to k mends) ++ sector_puts table (if_wanted (needs_sector mends k) k)
puts_more table mends k =
    ap (sector_puts table) (sectors_more mends k) ∙ map-append (sector_put table) (sectors_to k mends) (if_wanted (needs_sector mends k) k)

-- a sector that is needed is put
reaches_at : (table : List Header) (mends : List Mend) (place : Place) (k n : ℕ) (y : AnyUnit)
    → k < n → needs_sector mends k ≡ true → sector_put table k place ≡ Some y → Reaches (sector_puts table (sectors_to n mends)) place
reaches_at table mends place k zero y inside needs put = absurd (omega arith)
reaches_at table mends place k (suc n) y inside needs put = let one : suc n ≡ n + 1 = omega arith in subst (λ (puts : List Units.Units).
    Reaches puts place) (sym (ap (λ (m : ℕ). sector_puts table (sectors_to m mends)) one ∙ puts_more table mends n)) (elim (cases_eq k n) [
      | inl here ↦ let own : needs_sector mends n ≡ true = subst (λ (m : ℕ). needs_sector mends m ≡ true) here needs in
          reaches_right (sector_puts table (sectors_to n mends)) (sector_puts table (if_wanted (needs_sector mends n) n)) place
          (subst (λ (b : Bool). Reaches (sector_puts table (if_wanted b n)) place)
          (sym own) (inl (y, subst (λ (m : ℕ). sector_put table m place ≡ Some y) here put)))
      | inr away ↦ reaches_left (sector_puts table (sectors_to n mends)) (sector_puts table (if_wanted (needs_sector mends n) n))
          place (reaches_at table mends place k n y (omega (arith, inside, away)) needs put)
    ])

-- a slot that is listed needs its sector
listed : (p : Mend → Bool) (needs : ℕ → Bool) (classes : ℕ → Class) (s n : ℕ)
    → s < n → needs s ≡ true → p (slot_mend classes s) ≡ true → list_any p (slot_mends needs classes n) ≡ true
listed p needs classes s zero inside is own = absurd (omega arith)
listed p needs classes s (suc n) inside is own = let one : suc n ≡ n + 1 = omega arith in
    ap (λ (m : ℕ). list_any p (slot_mends needs classes m)) one ∙ ap (list_any p) (slot_mends_more needs classes n)
    ∙ list_any-append p (slot_mends needs classes n) (if_wanted (needs n) (slot_mend classes n)) ∙ elim (cases_eq s n) [
      | inl here ↦ let there : needs n ≡ true = subst (λ (m : ℕ). needs m ≡ true) here is in
          let wanted : list_any p (if_wanted (needs n) (slot_mend classes n)) ≡ true = ap (λ (b : Bool). list_any p (if_wanted b (slot_mend
          classes n))) there ∙ or_left (p (slot_mend classes n)) false (subst (λ (m : ℕ). p (slot_mend classes m) ≡ true) here own) in
          or_right (list_any p (slot_mends needs classes n)) (list_any p (if_wanted (needs n) (slot_mend classes n))) wanted
      | inr away ↦ or_left (list_any p (slot_mends needs classes n))
          (list_any p (if_wanted (needs n) (slot_mend classes n))) (listed p needs classes s n (omega (arith, inside, away)) is own)
    ]

lies : (classes : ℕ → Class) (s : ℕ) → lies_in (s / 16) (slot_mend classes s) ≡ true
lies classes s = eq-eqb (s / 16) (s / 16) refl

put_there : (table : List Header) (s : ℕ) (h : Header)
    → slice_get table s ≡ Some h → sector_put table (s / 16) (HeaderPlace s) ≡ Some (HeaderUnit (header_of h))
put_there table s h at = let same : s ≡ 16 * (s / 16) + s % 16 = omega arith in
    let has : slice_get (in_sector (s / 16) table) (s % 16) ≡ Some h =
    sector_has (s / 16) (s % 16) table h (omega arith) (subst (λ (k : ℕ). slice_get table k ≡ Some h) same at) in
    cond-true (s / 16 == s / 16) (header_unit (slice_get (in_sector (s / 16) table) (s % 16))) None (eq-eqb (s / 16) (s / 16) refl)
    ∙ ap header_unit has

-- ---- all of it, by what is shown

-- what is planned of an image in which a view is found: the part of `MayMend` that speaks of the image alone
pub record IsPlannedIn (sh : Shape) (image : Units.Units) (v : View) (table : ℕ → Units.Header) (headers : List Units.Units) (copies : List (ℕ × Units.Units)) : Type 0 where
  pub tells : IsTable sh image v table
  pub puts_headers : AllPutTable table headers
  pub agreed : Agree image v.checkpoint.content
  pub puts_copies : AllPutCopy v.checkpoint.content agreed.first agreed.second copies
  pub each_slot : (s : ℕ) → s < slots sh → (image (HeaderPlace s) ≡ Some (HeaderUnit (table s))) ⊎ Reaches headers (HeaderPlace s)
  pub each_copy : (k : ℕ) → k < 4 → (image (CopyPlace k) ≡ Some (CopyUnit v.checkpoint.content)) ⊎ IsNumber k copies

module _ (file : DataFile) (v : View) (table : List Header) (mends : List Mend)
    (f : SuperFields) (members : List Bool) (t : Told) (four : length members ≡ 4) (plan : IsPlanned file table mends f members t)
    (whole : IsImage t.shown) (found : IsFound (shape file) (unit_at file.layout file.cluster t.shown) v)
    (distinct : AreDistinctUnits (unit_at file.layout file.cluster t.shown)) where
  abbrev image : Units.Units
  image = unit_at file.layout file.cluster t.shown

  chosen : Quorum.IsChosenContent (content_at t.shown) (content_with f)
  chosen = super_is_written_as file.version t.shown f whole plan.super

  is_chosen : Copies.IsChosen image (content_of (content_with f))
  is_chosen = choice_chosen file.layout file.cluster t.shown (content_with f) whole chosen

  pub content_is : v.checkpoint.content ≡ content_of (content_with f)
  content_is = one_chosen_law image v.checkpoint.content (content_of (content_with f)) found.chosen is_chosen

  is_scan : IsScanOf file.layout (shape file) image v plan.scan plan.top
  is_scan = record {
    slots_are = refl;
    op = ap (λ (c : Units.Content). c.op) content_is ∙ sym (ap (λ (x : Start). x.op) plan.start);
    pin = ap (λ (c : Units.Content). c.pin) content_is ∙ sym (ap (λ (x : Start). x.head) plan.start);
    boot = ap (λ (c : Units.Content). c.boot) content_is ∙ sym (ap (λ (x : Start). x.boot) plan.start);
    head_is = plan.top_is whole v found;
    tells = plan.scanned;
    found = found;
  }

  members_are : Quorum.AreMembers (content_at t.shown) (content_with f) members
  members_are =
      subst (λ c. Quorum.AreMembers (content_at t.shown) c members) (written_as file.version t.shown f whole plan.super) plan.members_are

  -- a copy that shows the content
  copy_shown : (n : ℕ) → content_at t.shown n ≡ Some (content_with f) → image (CopyPlace n) ≡ Some (CopyUnit v.checkpoint.content)
  copy_shown n at = ap copy_unit at ∙ ap (λ (c : Units.Content). Some (CopyUnit c)) (sym content_is)

  member_of : (n : ℕ) → n < 4 → content_at t.shown n ≡ Some (content_with f) → IsSpared n 0 members
  member_of n below at j isnt inside same = let is : IsTrue (get_or members n false) = (members_are n below).1 at in
      let off : get_or members n false ≡ false = ap (λ (k : ℕ). get_or members k false) (let e : n ≡ j = omega (arith, same) in e) ∙ isnt in
      let no : false ≡ true = sym off ∙ is in cc

  needed : (s : ℕ) → s < file.layout.slots → needs_header file.layout plan.scan.start plan.top image s ≡ true
      → Reaches (sector_puts table (sectors_of file.layout mends)) (HeaderPlace s)
  needed s below needs = let start = plan.scan.start in let classes = shown_class plan.scan in
      let slots_list = slot_mends (needs_header file.layout start plan.top image) classes file.layout.slots in
      let inside : list_any (lies_in (s / 16)) slots_list ≡ true =
      listed (lies_in (s / 16)) (needs_header file.layout start plan.top image) classes s file.layout.slots below needs (lies classes s) in
      let all : needs_sector mends (s / 16) ≡ true =
      ap (list_any (lies_in (s / 16))) (plan.planned.list image plan.scanned) ∙ list_any-append (lies_in (s / 16)) (copy_mends plan.copies members) slots_list ∙ or_right (list_any (lies_in (s / 16)) (copy_mends plan.copies members)) (list_any (lies_in (s / 16)) slots_list) inside in
      let at = slice_get-get_or table s (reserved_header file.cluster 0) (omega (arith, below, plan.planned.is_table.count)) in
      reaches_at table mends (HeaderPlace s) (s / 16) (file.layout.slots / 16) (HeaderUnit (header_of (get_or table s (reserved_header file.cluster 0)))) (omega (arith, below, file.layout.slots_within.2)) all (put_there table s (get_or table s (reserved_header file.cluster 0)) at)

  pub planned_in : IsPlannedIn (shape file) image v (headers_in table) (sector_puts table (sectors_of file.layout mends)) (repaired f 0 members)
  planned_in = record {
    tells = plan.planned.from (shape file) image v is_scan;
    puts_headers = all_puts_table table (sectors_of file.layout mends);
    agreed = record {
      first = chosen.agreed.first;
      second = chosen.agreed.second;
      apart = chosen.agreed.apart;
      inside = chosen.agreed.inside;
      at_first = copy_shown chosen.agreed.first chosen.agreed.at_first;
      at_second = copy_shown chosen.agreed.second chosen.agreed.at_second;
    };
    puts_copies = subst (λ (c : Units.Content). AllPutCopy c chosen.agreed.first chosen.agreed.second (repaired f 0 members)) (sym content_is)
        (all_put f chosen.agreed.first chosen.agreed.second 0 members (member_of chosen.agreed.first (omega (arith, chosen.agreed.apart, chosen.agreed.inside)) chosen.agreed.at_first) (member_of chosen.agreed.second chosen.agreed.inside chosen.agreed.at_second));
    each_slot = λ s below. elim (cases_Bool (needs_header file.layout plan.scan.start plan.top image s)) [
      | inl needs ↦ inr (needed s below needs)
      | inr unlisted ↦ inl (plan.planned.others (shape file) image v is_scan distinct s below unlisted)
    ];
    each_copy = λ k below. elim (cases_Bool (get_or members k false)) [
      | inl member ↦ inl (copy_shown k ((members_are k below).0 member))
      | inr isnt ↦ inr (subst (λ (n : ℕ). IsNumber n (repaired f 0 members))
          (let same : 0 + k ≡ k = omega arith in same) (not_member f 0 k members (omega (arith, below, four)) isnt))
    ];
  }

-- ---- by a log on which the view rests

module _ (g : Grade) (file : DataFile) (v : View) (t : Told) (on : RestsOnDisk g file v t) where
  shown_is : t.shown ≡ Log.now t.log
  shown_is = λ i sector. on.honest.shows sector i

  pub image_is : unit_at file.layout file.cluster t.shown ≡ now (units_log (format file) t.log)
  image_is = ap (unit_at file.layout file.cluster) shown_is ∙ sym (now_units (format file) t.log.start t.log.events)

  pub rest_whole : IsImage t.shown
  rest_whole = subst IsImage (sym shown_is) (now_is_image t.log.start t.log.events on.is_log.start on.is_log.events)

  pub rest_found : IsFound (shape file) (unit_at file.layout file.cluster t.shown) v
  rest_found = subst (λ (u : Units.Units).
      IsFound (shape file) u v) (sym image_is) ((found_law (shape file) (now (units_log (format file) t.log)) v).0 on.rests.holds)

  pub rest_distinct : AreDistinctUnits (unit_at file.layout file.cluster t.shown)
  rest_distinct place other x y one two = let shown = ap (unit_at file.layout file.cluster) shown_is in
      let log = units_log (format file) t.log in
      let pool : (p : Place) (z : AnyUnit) → unit_at file.layout file.cluster t.shown p ≡ Some z → InPools log.start log.events p z = λ p z is.
      in_pools log.start log.events p z (on.no_chance.pooled p z (ap (λ (u : Units.Units). u p) (sym shown) ∙ is)) in
      on.no_chance.distinct place other x y (pool place x one) (pool other y two)

pub planned_may_mend : PlannedMayMend
planned_may_mend g file v table mends f members t four plan on = let log = units_log (format file) t.log in let in_log : IsPlannedIn
    (shape file) (now log) v (headers_in table) (sector_puts table (sectors_of file.layout mends)) (repaired f 0 members) =
    subst (λ (u : Units.Units). IsPlannedIn
    (shape file) u v (headers_in table) (sector_puts table (sectors_of file.layout mends)) (repaired f 0 members)) (image_is g file v t on)
    (planned_in file v table mends f members t four plan (rest_whole g file v t on) (rest_found g file v t on) (rest_distinct g file v t on)) in
    record {
      rests = on.rests;
      quiet = dry_quiet log on.dry;
      tells = in_log.tells;
      puts_headers = in_log.puts_headers;
      agreed = in_log.agreed;
      puts_copies = in_log.puts_copies;
      each_slot = in_log.each_slot;
      each_copy = in_log.each_copy;
    }
