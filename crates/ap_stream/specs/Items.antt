-- The types of the code for items and their parts.
pub use Rattle.ap_stream.specs.declared.item.Character.{Character}
pub use Rattle.ap_stream.specs.declared.item.Chunk.{Chunk}
pub use Rattle.ap_stream.specs.declared.item.Inner.{Inner}
pub use Rattle.ap_stream.specs.declared.item.Item.{Item}
pub use Rattle.ap_stream.specs.declared.item.Read.{Read}
