-- The types of the code that the definitions speak of: dialects, symbols and faults.
pub use Rattle.ap_symbol.specs.declared.symbol.Symbol.{Symbol}
pub use Rattle.ap_symbol.specs.declared.symbol.Symbol.TheVariants.{Tag}
pub use Rattle.ap_stream.specs.declared.dialect.Dialect.{Dialect}
pub use Rattle.ap_stream.specs.declared.dialect.Dialect.TheVariants.{Raw, Analysed, Lexical, Bilingual, Chunked, Generated}
pub use Rattle.ap_stream.specs.declared.fault.StreamFault.{StreamFault}
pub use Rattle.ap_stream.specs.declared.fault.StreamFault.TheVariants.{Malformed, Limit, Memory}
pub use Rattle.ap_stream.specs.declared.fault.MalformedKind.{MalformedKind}
pub use Rattle.ap_stream.specs.declared.fault.MalformedKind.TheVariants.{NotUtf8, Stray, Unfinished, BadTag, EmptyWord}
pub use Rattle.ap_stream.specs.declared.fault.LimitKind.{LimitKind}
pub use Rattle.ap_stream.specs.declared.fault.LimitKind.TheVariants.{ItemTooLong, UnitTooLong}
