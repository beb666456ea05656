-- The superblock of an upgrade passes its tests, and says what the machine records of the state that was found.
use Rattle.std.proofs.{Common.{◌≡◌, inl, inr, ℕ, ◌+◌, ◌<◌, ◌^◌, List, [], None, false, true, refl, sym, ◌∙◌, ap, arith}, lemmas.List.Elements.{All-drop}}
use Rattle.df_format.{specs.{Copies.{content_with}, Spelling.{no_checksum}, SuperRules.{IsFirstSuper, IsUsable, fault_of}, declared.superblock.SuperFields.{SuperFields}}, proofs.Laws.{faults}}
use Rattle.{df_sessions.specs.Table.{IsSessionTable}, df_units.specs.Meaning.{content_of, number_of}}
use Rattle.df_theory.specs.{Shape.{Shape}, Units.{Content, Parts, Units}, Upgrades.{as_version}, View.{View}}
use Rattle.df_model.specs.Making as making
use Rattle.df_model.specs.{Making.{boot_content, named_sums}, Memory.{Memory, memory_of}, Work.{opened}}
use Rattle.df_damage.{specs.{Below.{IsState, MayRecord, State, memory}, Surveying.{state_found}, Types.{Surveyed}}, proofs.Laws.{found_awaits, found_ends, found_staging, numbers_as, recorded_content, recorded_is_super}}
use Rattle.df_upgrade.specs.{Base.{base_fields}, Old.{IsOldSurvey}, Upgrading.{second}}

-- ---- it passes its tests

-- the state with a superblock of version 2 that records an empty tail, whose head is the checkpoint's prepare; the root doesn't matter
abbrev in_second : State → State
in_second s = record s { file = second s.file; fields = record s.fields { version = 2; head_checksum = s.fields.op_checksum }; root = [] }

module _ (y : Surveyed)
    (old : IsOldSurvey y) (usable : IsUsable y.scanned.copies.found.content) (table : IsSessionTable y.scanned.sessions) where
  abbrev f : SuperFields
  f = y.scanned.copies.found.content

  abbrev s : State
  s = state_found y

  first : IsFirstSuper f
  first = elim usable.rules.version [ inl one ↦ one | inr two ↦ absurd (omega (arith, two.version, old.found.read.version, old.version)) ]

  sense : IsState (in_second s)
  sense = record {
    in_file = record {
      cluster = rw (sym old.found.read.named) at usable.fits.cluster;
      version = refl;
      second = record {
        rules = record {
          version = refl;
          boot = omega (arith, first.boot);
          no_head = λ none. usable.rules.op_checksum (omega (arith, none, usable.rules.head.0));
          head_is_op = λ level. refl;
          spare = All-drop (λ (check : List ℕ). check ≡ no_checksum) f.clients f.reply_checksums first.named.replies;
        };
        of = numbers_as s.file f (record f { version = 2; head_checksum = f.op_checksum }) refl old.found.read.fields;
        names = usable.fits.reply_checksums;
        first_nonzero = usable.rules.zero;
      };
      sequence = usable.rules.sequence;
      root = omega arith;
      ring = old.planned.plan.is_table;
    };
    booted = λ live. absurd (let none : false ≡ true = live in cc);
    ends = found_ends y old.found usable.rules;
    awaits = found_awaits y old.found;
    staging = found_staging y [] refl old.found;
    captured = tt;
    course = old.found.read.idle;
  }

  may : MayRecord (in_second s) (record f { version = 2; boot = 1 })
  may = record {
    version = refl;
    boot = omega arith;
    layout = usable.rules.layout;
    places = old.found.read.fields.clients;
    cluster = usable.rules.cluster;
    sequence = usable.rules.sequence;
    op = old.found.ends.from;
    room = omega (arith, old.found.ends.within, old.found.read.fields.slots);
    op_checksum = usable.rules.op_checksum;
    level = old.found.ends.empty;
    trailer = usable.rules.trailer;
    trailer_checksum = usable.rules.trailer_checksum;
    no_trailer = usable.rules.no_trailer;
    trailer_size = usable.rules.trailer_size;
    zero = usable.rules.zero;
  }

  pub base_passes : fault_of (base_fields s) ≡ None
  base_passes = (faults (base_fields s)).1 (recorded_is_super (in_second s) (record f { version = 2; boot = 1 }) sense table may)

-- ---- in the words of the machine

-- what is named doesn't depend on the version
names_same : (sh : Shape) (spell : Parts → List ℕ) (image : Units) (v : View)
    → named_sums (memory_of sh spell (opened sh image v)) ≡ named_sums (memory_of sh spell (opened sh image (as_version 2 v)))
unfolding named_sums
names_same sh spell image v = refl

-- it is the content of a boot update of the view as version 2 has it, with what that leaves empty
pub base_content : (s : State) (sh : Shape) (spell : Parts → List ℕ) (image : Units) (v : View)
    → v.checkpoint.content.boot ≡ 0 → memory s ≡ memory_of sh spell (opened sh image v)
    → record (content_of (content_with (base_fields s))) { rest = v.checkpoint.content.rest }
    ≡ boot_content (memory_of sh spell (opened sh image (as_version 2 v))) (number_of (content_with (base_fields s)).checksum)
base_content s sh spell image v boot stands = let sum : ℕ = number_of (content_with (base_fields s)).checksum in
    let c : Content = v.checkpoint.content in let m : Memory = memory_of sh spell (opened sh image v) in
    let one : 1 ≡ c.boot + 1 = omega (arith, boot) in
    let recorded_is = recorded_content s (record s.fields { version = 2; boot = 1 }) refl in
    ap (λ (e : Content). record e { rest = c.rest }) recorded_is
    ∙ ap (λ (n : Memory). record (making.recorded n (record n.content { version = 2; boot = 1 })) { checksum = sum; rest = c.rest }) stands
    ∙ (λ i. record c {
      checksum = sum;
      version = 2;
      boot = one i;
      head = m.head;
      replies = m.replies;
      pin = m.head;
      pin_checksum = m.head_checksum;
      answered = m.replies + 1;
      reply_checksums = names_same sh spell image v i;
    })
