-- What the contracts here and above cite of the crates below this one.
pub use Rattle.df_base.specs.Moments.{EachMoment}
pub use Rattle.df_disk.specs.Told.{Told}
pub use Rattle.df_layout.specs.{declared.layout.Layout.{Layout}, declared.places.Zone.TheVariants.{WalHeaders}}
pub use Rattle.df_format.specs.{Own.{place_in}, Spelling.{IsCheck}}
pub use Rattle.df_buffers.specs.Rooms.{header_bytes}
pub use Rattle.df_theory.specs.{Cases.{IsTake, decision}, Found.{NotBehind, NotLost}, Sessions.{MayAsk}, Shape.{Shape, slots}, Tails.{Fits, FitsGroup}, Units.{Content, Message, Units}}
pub use Rattle.df_theory.specs.View.{Checkpoint}
pub use Rattle.df_units.specs.Meaning.{header_of, number_of, pin_of}
pub use Rattle.df_cases.specs.Cases.{HasCheck, decision_of, seen_of}
pub use Rattle.df_sessions.specs.{Requests.{sessions_of}, declared.session.Session.{Session}}
pub use Rattle.df_places.specs.Below.{Adds, AreSteps, Brings, HasCause, Shows, class_of, format_of, header_or_class, sectors_end, unit_in}
pub use Rattle.df_prepares.specs.Slots.{IsInOwnSlot, prepare_put_events, put_steps, slot_place}
pub use Rattle.df_headers.specs.Ring.{AreOfRing, IsHeaderTable, sector_writes}
