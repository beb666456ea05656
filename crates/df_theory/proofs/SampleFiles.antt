-- What the samples begin with: a file of either version as it is made.
use Rattle.std.proofs.Common.{◌≡◌, inl, ℕ, ◌%◌, ◌≤◌, List, [], ◌∷◌, Option, Some, None, refl, inr, arith}
use Rattle.df_theory.{specs.{Units.{BlockPlace, Content, CopyPlace, CopyUnit, Header, HeaderPlace, HeaderUnit, Layout, Message, Parts, PreparePlace, ReplyPlace, Units}, Shape.{Shape}, Trailer.{no_parts}, View.{IsOfVersion, View}, First.{IsFirst, IsFirstContent}, UnitLog.{UnitLog, put_one}, Runs.{after_steps}, CopyPuts.{PutsCopies}, TidyLaws.{IsTidy}, WholeLaws.{IsStanding}, WriterLaws.{IsHeaderSector}, MakingLaws.{IsMaking, PutsReserved, blank_log, format_steps}}, proofs.{PutOne.{put_one_law}, TidyMakes.{tidy_format_law}, Births.{blank_law}}}

abbrev pub layout : Layout
layout = record { slots = 16; message_size = 4096; clients = 4; block_size = 4096; blocks = 1024 }

abbrev pub shape_of : ℕ → (ℕ → List ℕ → Option Parts) → Shape
shape_of version parse = record { version = version; cluster = 3; layout = layout; named = omega arith; some = omega arith; parse = parse }

-- the superblock of a file without ops, by its version, the replies that it names, its checksum and its boot
abbrev pub bare : ℕ → ℕ → ℕ → ℕ → Content
bare version answered sum boot = record { checksum = sum; version = version; cluster = 3; layout = layout; sequence = 1; boot = boot; op = 0; op_checksum = 0; head = 0; replies = 0; pin = 0; pin_checksum = 0; answered = answered; reply_checksums = []; trailer = 0; trailer_checksum = 0; trailer_size = 0; rest = [] }

-- the view of such a file
abbrev pub first_of : Content → View
first_of c = record { checkpoint = record { content = c; chain = []; parts = no_parts }; tail = []; replies = 0; stored = λ k. None }

pub is_first_of : (sh : Shape) (c : Content) → IsFirstContent sh c → IsFirst sh (first_of c)
is_first_of sh c is = record { content = is; chain = refl; parts = refl; tail = refl; replies = refl; stored = λ k. refl }

pub is_first_bare : (version answered sum : ℕ) (parse : ℕ → List ℕ → Option Parts)
    → answered ≤ 1 → IsOfVersion (bare version answered sum 0) → IsFirst (shape_of version parse) (first_of (bare version answered sum 0))
is_first_bare version answered sum parse few of = is_first_of (shape_of version parse) (bare version answered sum 0) (record {
  tests = record { version = refl; layout = refl; cluster = refl; sequence = (omega arith, omega arith); boot = omega arith; op_checksum = λ zero_is. refl; head = (omega arith, omega arith, omega arith); replies = (omega arith, omega arith); pin = (omega arith, omega arith); pin_checksum = λ level. refl; answered = omega (arith, few); spare = λ k low. refl; of = of; rest = λ i. refl };
  sequence = refl;
  numbers = (refl, refl, refl, refl);
  pin = (refl, refl, refl);
  named = λ k. refl;
  trailer = (refl, refl, refl);
})

abbrev pub reserved : Header
reserved = record { checksum = 1; parent = 0; client = 0; op = 0; request = 0; mark = 0; checkpoint = 0; boot = 0; group = 0; group_last = 0 }

abbrev pub all_reserved : Units
all_reserved (HeaderPlace s) = Some (HeaderUnit reserved)
all_reserved (CopyPlace n) = None
all_reserved (PreparePlace s) = None
all_reserved (ReplyPlace k) = None
all_reserved (BlockPlace a) = None

pub puts_reserved : PutsReserved all_reserved
puts_reserved (HeaderPlace s) y is =
    (s, reserved, refl, let both : Some (HeaderUnit reserved) ≡ Some y = is in cc, record { op = refl; checkpoint = refl; boot = refl })
puts_reserved (CopyPlace n) y is = absurd (let both : None ≡ Some y = is in cc)
puts_reserved (PreparePlace s) y is = absurd (let both : None ≡ Some y = is in cc)
puts_reserved (ReplyPlace k) y is = absurd (let both : None ≡ Some y = is in cc)
puts_reserved (BlockPlace a) y is = absurd (let both : None ≡ Some y = is in cc)

-- the four copies of a content
abbrev pub copies_of : (c : Content) → PutsCopies c
copies_of c = record {
  put0 = put_one (CopyPlace 0) (CopyUnit c);
  put1 = put_one (CopyPlace 1) (CopyUnit c);
  put2 = put_one (CopyPlace 2) (CopyUnit c);
  put3 = put_one (CopyPlace 3) (CopyUnit c);
  one0 = put_one_law (CopyPlace 0) (CopyUnit c);
  one1 = put_one_law (CopyPlace 1) (CopyUnit c);
  one2 = put_one_law (CopyPlace 2) (CopyUnit c);
  one3 = put_one_law (CopyPlace 3) (CopyUnit c);
}

-- the log of a file that was made with this superblock
abbrev pub made_of : Content → UnitLog
made_of c = after_steps (format_steps (all_reserved ∷ []) (copies_of c)) blank_log

pub making_of : (sh : Shape) (c : Content) → IsFirst sh (first_of c) → IsMaking sh blank_log c
making_of sh c first = (blank_law sh c first.content).0

pub tidy_of : (sh : Shape) (c : Content) → IsFirst sh (first_of c) → IsTidy sh (made_of c) (first_of c) × IsStanding (made_of c) (first_of c)
tidy_of sh c first = tidy_format_law sh blank_log (first_of c)
    (all_reserved ∷ []) (copies_of c) (making_of sh c first) first (puts_reserved, tt) (λ s below. inl (HeaderUnit reserved, refl))

-- the header sector of an append: the new header alone
pub sector : (sh : Shape) (image : Units) (p : Message)
    → IsHeaderSector sh image p (put_one (HeaderPlace (p.header.op % sh.layout.slots)) (HeaderUnit p.header))
sector sh image p = record {
  each = λ place y is. let at = (put_one_law (HeaderPlace (p.header.op % sh.layout.slots)) (HeaderUnit p.header)).only place y is in
      (p.header.op % sh.layout.slots, p.header, at.0, at.1, inr (refl, refl));
}
