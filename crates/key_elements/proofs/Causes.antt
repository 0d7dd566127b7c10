-- A list that was refused has the cause that is told.
use Rattle.std.proofs.Common.{◌≡◌, ◌⊎◌, ℕ, ◌<◌, List, length, take, drop, Ok, Err, refl, inl, inr}
use Rattle.key_elements.specs.declared.element.Element.{Element}
use Rattle.key_elements.specs.declared.list.TheConstants.{MAX_ELEMENTS}
use Rattle.key_elements.specs.declared.refused.ElementRefused.{ElementRefused}
use Rattle.key_elements.specs.declared.refused.ElementRefused.TheVariants.{Cut, UnknownKind, BadDate, BadReason, Memory}
use Rattle.key_elements.specs.declared.refused.ListRefused.TheVariants as lists
use Rattle.key_elements.specs.Record.{AreRecords, IsList}
use Rattle.key_elements.specs.Reading.{element_at, IsRefusedAt}
use Rattle.key_elements.specs.Refusals.{Explains, refused_at}
use Rattle.key_elements.proofs.Lists.{refused_none}

-- the reader's answer at a place behind whole records
pub record StopsAt (bytes : List ℕ) (place : ℕ) (why : ElementRefused) : Type 0 where
  pub before : List Element
  pub records : AreRecords (take place bytes) before
  pub few : length before < MAX_ELEMENTS
  pub left : place < length bytes
  pub answer : (element_at (drop place bytes) ≡ Err why) ⊎ ((why ≡ Memory) × ((x : Element × List ℕ) × (element_at (drop place bytes) ≡ Ok x)))

refusal : (bytes : List ℕ) (place : ℕ) (why : ElementRefused) → (why ≡ Memory → ⊥) → StopsAt bytes place why → IsRefusedAt bytes place why
refusal bytes place why other stops = record {
  before = stops.before;
  records = stops.records;
  few = stops.few;
  left = stops.left;
  refused = told stops.answer;
}
  where
    told : (element_at (drop place bytes) ≡ Err why) ⊎ ((why ≡ Memory) × ((x : Element × List ℕ) × (element_at (drop place bytes) ≡ Ok x))) → element_at (drop place bytes) ≡ Err why
    told (inl is) = is
    told (inr want) = absurd (other want.0)

pub explained : (bytes : List ℕ) (place : ℕ) (why : ElementRefused) → StopsAt bytes place why → Explains bytes (refused_at place why)
explained bytes place Memory stops = tt
explained bytes place Cut stops = refusal bytes place Cut (λ e. cc) stops
explained bytes place UnknownKind stops = refusal bytes place UnknownKind (λ e. cc) stops
explained bytes place BadDate stops = refusal bytes place BadDate (λ e. cc) stops
explained bytes place BadReason stops = refusal bytes place BadReason (λ e. cc) stops

no_list : (bytes : List ℕ) (place : ℕ) (why : ElementRefused) (es : List Element) → IsRefusedAt bytes place why → IsList bytes es → ⊥
no_list bytes place why es at list = refused_none bytes place why at.before es at.left at.refused at.records list

-- where the bytes are a list, only memory can be wanting
pub memory_only : (bytes : List ℕ) (place : ℕ) (why : ElementRefused) (es : List Element) → StopsAt bytes place why → IsList bytes es → refused_at place why ≡ lists.Memory
memory_only bytes place Memory es stops list = refl
memory_only bytes place Cut es stops list = absurd (no_list bytes place Cut es (explained bytes place Cut stops) list)
memory_only bytes place UnknownKind es stops list = absurd (no_list bytes place UnknownKind es (explained bytes place UnknownKind stops) list)
memory_only bytes place BadDate es stops list = absurd (no_list bytes place BadDate es (explained bytes place BadDate stops) list)
memory_only bytes place BadReason es stops list = absurd (no_list bytes place BadReason es (explained bytes place BadReason stops) list)
