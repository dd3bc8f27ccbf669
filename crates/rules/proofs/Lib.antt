-- Laws about the rules, and the table of positions worked by hand.
--     Order, Same, Sets, Sorting, Merging, Places, Keeping, Few    rows in order, and sets of them
--     Buffers, Writes                                              parts of a slice, and what was written there
--     Tests, Soundness, Extents                                    what a sound layout is, part by part
--     RowsRead, Sections, Encoded, Walked, ReadBack                the record of a layout, and the layout of a record
--     Ranges, Largest, Indices                                     numbers in a row, the largest of some, every index of a shape in order
--     Before, Alike, Finding, Holding, Found, Counting             what is held, found and counted
--     Made, Forming, Changed                                       a layout that is made: when it is formed, kind by kind
--     ToRows                                                       by which rule any two layouts are united or intersected
--     Once, Lowering, Listed,
--     Unions, UnionHolds, Low                                      the union of two sound layouts by plain cases, and what it holds
--     Contracting, Moved, Permuting, Replaced, Ranging,
--     Gathering, Taking, Axes, Stretching, Yielding,
--     StretchedAnswers, ToRank                                     which answer an operation gives of a sound layout, by plain cases
--     Given                                                        that what they give is sound
--     StretchedHolds, Full, IntersectMade, IntersectHolds,
--     ContractedHolds, PermutedHolds                               what is held then, and of what an intersection is made
--     Agreeing                                                     the common shape of shapes, by plain cases
--     Giving, Unchanged, Folding, BroadcastSteps, BroadcastEnds,
--     BroadcastHolds                                               a broadcast: what is stretched, folded in order, its end, and what it holds
--     StretchedTogether, StretchedModes                            the two modes of stretching: what each lists, what both share
--     MovedBy, Blocks, ConcatenateMade, JoinHolds                  blocks: what is moved by a start, what they have in common, what is made of them, and what a join holds
--     Calls, FoundAll                                              what calls answer of sound records, and of many indices at once
--     Piled, PiledPairs, Summing, ExchangeMade, ExchangeKeeps,
--     Piles                                                        the pile: any exchanges keep its counts
--     Slots, PileRecords, RecordPiles                              the same of records in the slots of a slice
--     PileFacts                                                    what they keep of such a slice, and what calls answer of its slots, as one record of facts
--     PileByHand                                                   a pile exchanged by hand
--     Determined                                                   two outcomes that a contract allows are equal; the numbers of refusals are 1 to 13
--     WorkedByHand, Examples                                       the table, and examples of every operation
--     Refusing, RefusedWith, BroadcastRefused,
--     ConcatenateRefused                                           which numbers are given
--     FreeEntries, FreeBehind, Offering, FilteredDeps,
--     IntersectLists                                               entries that are free on some axes; what an intersection lists, exactly
--     EntriesKept, EntriesBroadcast, NoEntryLost, UnlistedSame     no dependency is lost, by an operation and in an expression; what is not listed does not matter
--     BroadcastLists, ProductFolds, ProductLists                   what a broadcast in mode 1 lists, exactly: sums, one layout, diagonals, products, and a call
--     EntriesByHand                                                where the rules do lose a dependency, each loss with the way round it, and two that are kept
pub mod KindRead
pub mod Order
pub mod Same
pub mod Sets
pub mod Sorting
pub mod Merging
pub mod Places
pub mod Keeping
pub mod Few
pub mod Buffers
pub mod Writes
pub mod Tests
pub mod Soundness
pub mod Extents
pub mod RowsRead
pub mod Sections
pub mod Encoded
pub mod Walked
pub mod ReadBack
pub mod Ranges
pub mod Largest
pub mod Indices
pub mod Before
pub mod Alike
pub mod Finding
pub mod Holding
pub mod Found
pub mod Counting
pub mod Made
pub mod Forming
pub mod Changed
pub mod ToRows
pub mod Once
pub mod Lowering
pub mod Listed
pub mod Unions
pub mod UnionHolds
pub mod Low
pub mod Contracting
pub mod Moved
pub mod Permuting
pub mod Replaced
pub mod Ranging
pub mod Gathering
pub mod Taking
pub mod Axes
pub mod Stretching
pub mod Yielding
pub mod StretchedAnswers
pub mod ToRank
pub mod Given
pub mod StretchedHolds
pub mod Full
pub mod IntersectMade
pub mod IntersectHolds
pub mod Calls
pub mod FoundAll
pub mod Piled
pub mod PiledPairs
pub mod Summing
pub mod ExchangeMade
pub mod ExchangeKeeps
pub mod Piles
pub mod Slots
pub mod PileRecords
pub mod RecordPiles
pub mod PileFacts
pub mod PileByHand
pub mod ContractedHolds
pub mod PermutedHolds
pub mod Agreeing
pub mod Giving
pub mod Unchanged
pub mod Folding
pub mod BroadcastSteps
pub mod StretchedTogether
pub mod StretchedModes
pub mod BroadcastEnds
pub mod BroadcastHolds
pub mod MovedBy
pub mod Blocks
pub mod ConcatenateMade
pub mod JoinHolds
pub mod HandedOn
pub mod Determined
pub mod WorkedByHand
pub mod Refusing
pub mod RefusedWith
pub mod BroadcastRefused
pub mod ConcatenateRefused
pub mod EntriesKept
pub mod FreeEntries
pub mod FreeBehind
pub mod Offering
pub mod FilteredDeps
pub mod IntersectLists
pub mod EntriesBroadcast
pub mod NoEntryLost
pub mod UnlistedSame
pub mod BroadcastLists
pub mod ProductFolds
pub mod ProductLists
pub mod EntriesByHand
mod Examples
