-- The superblock with which a file of version 1 becomes one of version 2.
use Rattle.std.specs.Prelude.{◌≡◌, ◌<◌, Option, Some, None}
use Rattle.df_base.specs.{declared.TheConstants.{VERSION}, Image.{IsImage}}
use Rattle.df_disk.specs.Told.{Told}
use Rattle.df_format.specs.{SuperRules.{fault_of}, Copies.{Content, content_at, content_with, rank_of_copy}, declared.superblock.SuperFields.{SuperFields}}
use Rattle.df_quorum.specs.Quorum.{IsChosenContent}
use Rattle.df_damage.specs.Below.{State, recorded}

-- of the same checkpoint, with its sequence; of version 2 and of the first boot; and it records the state as it was found: the head and that prepare's checksum, the replies, and the checksum of each that is stored
abbrev pub base_fields : State → SuperFields
base_fields s = recorded s (record s.fields { version = VERSION; boot = 1 })

-- where the disk tells what it shows, the content that its copies choose is below this one, by sequence and then by boot
abbrev pub IsAbove : Option Told → SuperFields → Type 0
IsAbove None f = Unit {0}
IsAbove (Some t) f = IsImage t.shown → (c : Content) → IsChosenContent (content_at t.shown) c → rank_of_copy c < rank_of_copy (content_with f)

-- a file on this disk may get this superblock: it is of version 2, passes its tests, and is above the chosen one
pub record MayUpgradeTo (told : Option Told) (f : SuperFields) : Type 0 where
  pub version : f.version ≡ VERSION
  pub rules : fault_of f ≡ None
  pub above : IsAbove told f
